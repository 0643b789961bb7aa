-- Light rows are document 01's light enough rows.
use mathlib.Core.Path.{◌≡◌, ap}
use mathlib.Core.Logic.{◌↔◌}
use Prim.Native.Nat.{ℕ, suc, ◌+◌, ◌*◌, ◌-◌, ◌≤◌}
use native.Mathlib.Omega.{arith}
use Rattle.recurrence.specs.Recurrence.{Light}
use Rattle.recurrence.specs.Theorems.{LightRule}

by_less : (q p u c e S x : ℕ) → x + c * q ≡ e * p → (suc q * (e * (p * S) + c * u) ≤ (e * p + c) * u) ↔ (e * suc q * p * S ≤ u * x)
by_less q p u c e S x h = omega (arith, ap (λ t. u * t) h)

pub light_rule : LightRule
light_rule r p u c e S hr h = of_radix r (r - 1) (omega arith) h
  where
    of_radix : (r q : ℕ) → r ≡ suc q → c * q ≤ e * p → Light r p u c e S ↔ (e * r * p * S ≤ u * (e * p - c * q))
    of_radix r q m h = rw m (let f = by_less q p u c e S (e * p - c * q) (omega arith) in ((λ l. f.0 l.light), (λ k. record { light = f.1 k })))
