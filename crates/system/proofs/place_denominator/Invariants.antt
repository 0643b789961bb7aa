-- Before row i the rows from 1 on hold their coefficients.
use mathlib.Core.Path.{◌≡◌}
use Prim.Native.Nat.{◌+◌, ◌-◌, ◌≤◌}
use lib.IntN.{neg_ℤ}
use Rattle.integers.specs.Flat.{stores}
use Rattle.system.specs.System.{denominator}
use Rattle.system.proofs.Setup.{denominator_place}
use Rattle.system.proofs.place_denominator.Given as goal

abbrev pub invariant-loop-i : goal.invariant-loop-i
invariant-loop-i l = (l.i - 1 ≤ l.n - 1) × (l.g ≡ stores l.initial.g denominator_place (λ t. neg_ℤ (denominator l.n l.v (t + 1))) (l.i - 1))
