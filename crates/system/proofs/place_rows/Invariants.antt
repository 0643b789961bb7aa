-- After i rows, the array holds the first i rows of the matrix.
use mathlib.Core.Path.{◌≡◌}
use Prim.Native.Nat.{◌≤◌}
use Rattle.integers.specs.Flat.{flat_matrix}
use Rattle.system.specs.System.{system_entry}
use Rattle.system.proofs.Setup.{rows_below}
use Rattle.system.proofs.place_rows.Given as goal

abbrev pub invariant-loop-i : goal.invariant-loop-i
invariant-loop-i l = (l.i ≤ l.n) × (l.g ≡ flat_matrix l.n (rows_below l.i (system_entry l.u l.n l.v)))
