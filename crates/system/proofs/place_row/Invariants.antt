-- After j columns, j entries of the row are stored.
use mathlib.Core.Path.{◌≡◌}
use Prim.Native.Nat.{◌+◌, ◌*◌, ◌≤◌}
use Rattle.integers.specs.Flat.{stores}
use Rattle.system.specs.System.{system_entry}
use Rattle.system.proofs.place_row.Given as goal

abbrev pub invariant-loop-j : goal.invariant-loop-j
invariant-loop-j l = (l.j ≤ l.n) × (l.g ≡ stores l.initial.g (λ j'. 16 * l.i + j') (system_entry l.u l.n l.v l.i) l.j)
