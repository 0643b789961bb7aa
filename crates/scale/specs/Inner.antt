-- What the contracts of inner functions cite; a reader of the promises can skip it.
use mathlib.Core.{Bool.cond, List.List}
use Rattle.std.specs.Prelude.{ℕ, zero, suc, ◌^◌, ◌<◌, ◌≤◌}
use lib.{Dec.ltb, IntN.ℤ, IntN.nat_abs}
use Rattle.integers.specs.Flat.{at}

-- no right-hand side of the rows below n has a magnitude above 2^41
pub record SmallSides (n : ℕ) (z : List ℤ) : Type 0 where
  pub rows : (i : ℕ) → i < n → nat_abs (at z i) ≤ 2 ^ 41

abbrev pub larger : ℕ → ℕ → ℕ
larger a b = cond (ltb a b) b a

-- the largest |B| of the rows below n
unfoldable pub peak : ℕ → (ℕ → ℤ) → ℕ
peak zero B = 0
peak (suc n) B = larger (peak n B) (nat_abs (B n))

-- 2^e is the smallest power of 2 that is a or more
pub record Exponent (a e : ℕ) : Type 0 where
  pub holds : a ≤ 2 ^ e
  pub least : (t : ℕ) → a ≤ 2 ^ t → e ≤ t
