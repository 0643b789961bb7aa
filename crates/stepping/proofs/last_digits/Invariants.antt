-- The invariant: the rows below i hold their digits of step k, and the others 0.
use mathlib.Core.Path.{◌≡◌}
use Prim.Native.Nat.{◌≤◌}
use lib.IntN.{pos}
use lib.ListN.{replicate}
use Rattle.integers.specs.Flat.{stores}
use Rattle.state.specs.State.{digits_of}
use Rattle.stepping.proofs.last_digits.Given as goal

abbrev pub invariant-loop-i : goal.invariant-loop-i
invariant-loop-i l = (l.i ≤ l.n) × (l.d ≡ stores (replicate 16 (pos 0)) (λ t. t) (digits_of l.digits l.k) l.i)
