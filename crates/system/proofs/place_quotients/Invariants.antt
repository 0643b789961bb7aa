-- After the turn for column i the array is the matrix of order i + 1.
use mathlib.Core.Path.{◌≡◌}
use Prim.Native.Nat.{◌≤◌}
use Rattle.integers.specs.Flat.{flat_matrix}
use Rattle.system.specs.System.{coefficient, subtrahend, quotients_entry}
use Rattle.system.proofs.place_quotients.Given as goal

abbrev pub invariant-loop-i : goal.invariant-loop-i
invariant-loop-i l = (1 ≤ l.i) × (l.i ≤ l.n) × (l.g ≡ flat_matrix l.i (quotients_entry (coefficient l.v) (subtrahend l.v)))
