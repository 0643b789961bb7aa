-- The absolute value, `nat_abs`, a natural number: the triangle inequality and its like, products, and bounds.
use mathlib.Core.Path.{◌≡◌, refl}
use Prim.Native.Nat.{ℕ, zero, suc, ◌+◌, ◌*◌, ◌-◌, ◌<◌, ◌≤◌}
use native.Mathlib.Nat.{mul-le-mul}
use native.Mathlib.Omega.{arith}
use lib.Dec.{ltb, ltb→lt}
use lib.IntN.{ℤ, pos, negsuc, neg_ℤ, nat_abs, sub_ℕ, ◌+ℤ◌, ◌-ℤ◌, ◌*ℤ◌}
use lib.Signed.{◌<ℤ◌}
use Rattle.integers.proofs.Parts.{pos_part, neg_part, cond_both, parts_add, pos_part_neg, neg_part_neg}
use Rattle.integers.proofs.Order.{zarith}

pub abs_parts : (z : ℤ) → nat_abs z ≡ pos_part z + neg_part z
abs_parts (pos n) = omega arith
abs_parts (negsuc n) = omega arith

pub abs_neg : (a : ℤ) → nat_abs (neg_ℤ a) ≡ nat_abs a
abs_neg (pos zero) = refl
abs_neg (pos (suc n)) = refl
abs_neg (negsuc n) = refl

abs_subℕ : (a b : ℕ) → nat_abs (sub_ℕ a b) ≤ a + b
abs_subℕ a b =
    cond_both (ltb a b) (negsuc (b - suc a)) (pos (a - b)) (λ z. nat_abs z ≤ a + b) (λ t. below (ltb→lt a b t)) (λ t. above)
  where
    below : a < b → suc (b - suc a) ≤ a + b
    below h = omega arith

    above : (a - b) ≤ a + b
    above = omega arith

-- the triangle inequality
pub abs-add : (a b : ℤ) → nat_abs (a +ℤ b) ≤ nat_abs a + nat_abs b
abs-add (pos a) (pos b) = omega arith
abs-add (pos a) (negsuc b) = abs_subℕ a (suc b)
abs-add (negsuc a) (pos b) = omega (arith, abs_subℕ b (suc a))
abs-add (negsuc a) (negsuc b) = omega arith

pub abs-mul : (a b : ℤ) → nat_abs (a *ℤ b) ≡ nat_abs a * nat_abs b
abs-mul (pos a) (pos b) = refl
abs-mul (pos a) (negsuc b) = abs_neg (pos (a * suc b))
abs-mul (negsuc a) (pos b) = abs_neg (pos (suc a * b))
abs-mul (negsuc a) (negsuc b) = refl

-- ---- bounds

pub abs-add_le : (a b : ℤ) (m k : ℕ) → nat_abs a ≤ m → nat_abs b ≤ k → nat_abs (a +ℤ b) ≤ m + k
abs-add_le a b m k h l = omega (arith, abs-add a b)

pub abs-mul_le : (a b : ℤ) (m k : ℕ) → nat_abs a ≤ m → nat_abs b ≤ k → nat_abs (a *ℤ b) ≤ m * k
abs-mul_le a b m k h l = omega (arith, abs-mul a b, mul-le-mul h l)

pub abs-neg_le : (a : ℤ) (m : ℕ) → nat_abs a ≤ m → nat_abs (neg_ℤ a) ≤ m
abs-neg_le a m h = omega (arith, abs_neg a)

-- e |z| ≤ B, from the two sides: e z ≤ B and -e z ≤ B
pub abs_le : (e : ℕ) (z : ℤ) (B : ℕ) → e * pos_part z ≤ e * neg_part z + B → e * neg_part z ≤ e * pos_part z + B → e * nat_abs z ≤ B
abs_le e (pos n) B h k = omega arith
abs_le e (negsuc n) B h k = omega arith

-- ---- by the sign

-- a number above 0 is its absolute value, which is above 0
pub positive_abs : {z : ℤ} → pos 0 <ℤ z → pos (nat_abs z) ≡ z
positive_abs {z = pos n} h = refl
positive_abs {z = negsuc n} h = absurd h.lt

pub abs_positive : {z : ℤ} → pos 0 <ℤ z → 0 < nat_abs z
abs_positive {z} h = omega (zarith, abs_parts z)

-- ---- zero and equality

pub abs-zero : (z : ℤ) → nat_abs z ≤ 0 → z ≡ pos 0
abs-zero z h = omega (zarith, abs_parts z)

-- numbers whose difference is 0 are equal
pub eq_of_abs-sub : (a b : ℤ) → nat_abs (a -ℤ b) ≤ 0 → a ≡ b
eq_of_abs-sub a b h = omega (zarith, abs_parts (a -ℤ b), parts_add a (neg_ℤ b), pos_part_neg b, neg_part_neg b)
