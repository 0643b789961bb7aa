-- Whole numbers with a sign in w bits, by two's complement. `mag z` is n both for n and for -(n + 1), so that
-- a range is one bound.
use mathlib.Core.{List.List, List.map, Bool.Bool, Bool.cond}
use Rattle.std.specs.Prelude.{ℕ, suc, ◌-◌, ◌^◌, ◌<◌}
use lib.{IntN.ℤ, IntN.pos, IntN.negsuc, Signed.mag, Dec.ltb, ListN.length, ListN.get_or}
use Rattle.bitfields.specs.Layout.{values_from}

-- The w bits that stand for z: a negative z is counted back from 2 ^ w.
unfoldable pub encode : ℕ → ℤ → ℕ
encode w (pos n) = n
encode w (negsuc n) = 2 ^ w - suc n

-- The number that the w bits x stand for: from 2 ^ (w - 1) on it is negative.
unfoldable pub decode : (w x : ℕ) → ℤ
decode w x = cond (ltb x (2 ^ (w - 1))) (pos x) (negsuc (2 ^ w - suc x))

-- z can be held in w bits, from -(2 ^ (w - 1)) to 2 ^ (w - 1) - 1. And the same as a test.
pub record Fits (w : ℕ) (z : ℤ) : Type 0 where
  pub size : mag z < 2 ^ (w - 1)

unfoldable pub fitsb : ℕ → ℤ → Bool
fitsb w z = ltb (mag z) (2 ^ (w - 1))

-- Every number of the list can be held in w bits.
pub record AllFit (w : ℕ) (zs : List ℤ) : Type 0 where
  pub each_fits : (i : ℕ) → i < length zs → Fits w (get_or zs i (pos 0))

-- The n numbers of w bits from the bit `at` of s on.
abbrev pub numbers : (s : List ℕ) (at w n : ℕ) → List ℤ
numbers s at w n = map (decode w) (values_from s at w n)
