-- Before turn i the rows below i - 1 have x after the diagonal.
use mathlib.Core.Path.{◌≡◌}
use Prim.Native.Nat.{◌-◌, ◌≤◌}
use Rattle.integers.specs.Flat.{stores}
use Rattle.system.proofs.Setup.{argument_place}
use Rattle.system.proofs.place_argument.Given as goal

abbrev pub invariant-loop-i : goal.invariant-loop-i
invariant-loop-i l = (l.i - 1 ≤ l.n - 1) × (l.g ≡ stores l.initial.g argument_place (λ t. l.x) (l.i - 1))
