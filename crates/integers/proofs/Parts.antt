-- Each whole number z is posPart z - negPart z, two natural numbers of which one is 0. Through them an
-- equation or an order of ℤ becomes one of ℕ, which `omega arith` proves. The modules `Order`, `Absolute`,
-- `Ring` and `Linear` are built on this one; a proof elsewhere seldom needs more of it than `parts_add`,
-- `pos_part_neg` and `neg_part_neg`.
use mathlib.Core.Path.{◌≡◌, refl, ap}
use mathlib.Core.Bool.{Bool, true, false, not, cond}
use Prim.Native.Nat.{ℕ, zero, suc, ◌+◌, ◌*◌, ◌-◌, ◌<◌, ◌≤◌}
use native.Mathlib.Omega.{arith}
use lib.Dec.{T, ltb, ltb→lt, nltb→le}
use lib.IntN.{ℤ, pos, negsuc, neg_ℤ, sub_ℕ, ◌+ℤ◌, ◌*ℤ◌}

-- z where z is not negative, else 0
abbrev pub pos_part : ℤ → ℕ
pos_part (pos n) = n
pos_part (negsuc n) = 0

-- -z where z is negative, else 0
abbrev pub neg_part : ℤ → ℕ
neg_part (pos n) = 0
neg_part (negsuc n) = suc n

-- the parts of -z are those of z, exchanged
pub pos_part_neg : (z : ℤ) → pos_part (neg_ℤ z) ≡ neg_part z
pos_part_neg (pos zero) = refl
pos_part_neg (pos (suc n)) = refl
pos_part_neg (negsuc n) = refl

pub neg_part_neg : (z : ℤ) → neg_part (neg_ℤ z) ≡ pos_part z
neg_part_neg (pos zero) = refl
neg_part_neg (pos (suc n)) = refl
neg_part_neg (negsuc n) = refl

-- a fact of both branches is a fact of the whole
pub cond_both : (c : Bool) (x y : ℤ) (Q : ℤ → Type 0) → (T c → Q x) → (T (not c) → Q y) → Q (cond c x y)
cond_both true x y Q f g = f tt
cond_both false x y Q f g = g tt

parts_subℕ : (a b : ℕ) → pos_part (sub_ℕ a b) + b ≡ a + neg_part (sub_ℕ a b)
parts_subℕ a b =
    cond_both (ltb a b) (negsuc (b - suc a)) (pos (a - b)) (λ z. pos_part z + b ≡ a + neg_part z)
    (λ t. below (ltb→lt a b t)) (λ t. above (nltb→le a b t))
  where
    below : a < b → 0 + b ≡ a + suc (b - suc a)
    below h = omega arith

    above : b ≤ a → (a - b) + b ≡ a + 0
    above h = omega arith

pub parts_add : (a b : ℤ) → pos_part (a +ℤ b) + (neg_part a + neg_part b) ≡ (pos_part a + pos_part b) + neg_part (a +ℤ b)
parts_add (pos a) (pos b) = omega arith
parts_add (pos a) (negsuc b) = omega (arith, parts_subℕ a (suc b))
parts_add (negsuc a) (pos b) = omega (arith, parts_subℕ b (suc a))
parts_add (negsuc a) (negsuc b) = omega arith

pub parts_mul : (a b : ℤ) → pos_part (a *ℤ b) + (pos_part a * neg_part b + neg_part a * pos_part b) ≡ (pos_part a * pos_part b + neg_part a * neg_part b) + neg_part (a *ℤ b)
parts_mul (pos a) (pos b) = omega arith
parts_mul (pos a) (negsuc b) = omega (arith, pos_part_neg (pos (a * suc b)), neg_part_neg (pos (a * suc b)))
parts_mul (negsuc a) (pos b) = omega (arith, pos_part_neg (pos (suc a * b)), neg_part_neg (pos (suc a * b)))
parts_mul (negsuc a) (negsuc b) = omega arith

-- numbers with the same difference of parts are equal
pub parts_inj : (a b : ℤ) → pos_part a + neg_part b ≡ pos_part b + neg_part a → a ≡ b
parts_inj (pos a) (pos b) h = ap pos (omega arith)
parts_inj (pos a) (negsuc b) h = absurd (omega arith)
parts_inj (negsuc a) (pos b) h = absurd (omega arith)
parts_inj (negsuc a) (negsuc b) h = ap negsuc (omega arith)

-- z written as a difference p - n of natural numbers, in any way
pub record Difference (z : ℤ) : Type 0 where
  pub p : ℕ
  pub n : ℕ
  pub is : pos_part z + n ≡ p + neg_part z

abbrev pub of_var : (z : ℤ) → Difference z
of_var z = record { p = pos_part z; n = neg_part z; is = refl }

abbrev pub of_pos : (k : ℕ) → Difference (pos k)
of_pos k = record { p = k; n = 0; is = refl }

abbrev pub of_negsuc : (k : ℕ) → Difference (negsuc k)
of_negsuc k = record { p = 0; n = suc k; is = refl }

pub difference_neg : (z : ℤ) (p n : ℕ) → pos_part z + n ≡ p + neg_part z → pos_part (neg_ℤ z) + p ≡ n + neg_part (neg_ℤ z)
difference_neg z p n h = omega (arith, pos_part_neg z, neg_part_neg z)

pub difference_add : (a b : ℤ) (p n q m : ℕ) → pos_part a + n ≡ p + neg_part a → pos_part b + m ≡ q + neg_part b → pos_part (a +ℤ b) + (n + m) ≡ (p + q) + neg_part (a +ℤ b)
difference_add a b p n q m h k = omega (arith, parts_add a b)

pub difference_mul : (a b : ℤ) (p n q m : ℕ) → pos_part a + n ≡ p + neg_part a → pos_part b + m ≡ q + neg_part b → pos_part (a *ℤ b) + (p * m + n * q) ≡ (p * q + n * m) + neg_part (a *ℤ b)
difference_mul a b p n q m h k =
    omega (arith, parts_mul a b, ap (λ x. x * q) h, ap (λ x. x * m) h, ap (λ x. x * pos_part a) k, ap (λ x. x * neg_part a) k)

abbrev pub of_neg : {z : ℤ} → Difference z → Difference (neg_ℤ z)
of_neg {z} r = record { p = r.n; n = r.p; is = difference_neg z r.p r.n r.is }

abbrev pub of_add : {a b : ℤ} → Difference a → Difference b → Difference (a +ℤ b)
of_add {a} {b} r s = record { p = r.p + s.p; n = r.n + s.n; is = difference_add a b r.p r.n s.p s.n r.is s.is }

abbrev pub of_mul : {a b : ℤ} → Difference a → Difference b → Difference (a *ℤ b)
of_mul {a} {b} r s =
    record { p = r.p * s.p + r.n * s.n; n = r.p * s.n + r.n * s.p; is = difference_mul a b r.p r.n s.p s.n r.is s.is }

-- how a sum, a product or a numeral is such a difference
pub ruleset differences = (of_add, of_mul, of_neg, of_pos, of_negsuc)

eq_is : (a b : ℤ) (p n q m : ℕ) → pos_part a + n ≡ p + neg_part a → pos_part b + m ≡ q + neg_part b → p + m ≡ q + n → a ≡ b
eq_is a b p n q m h k e = parts_inj a b (omega arith)

-- equal differences are equal numbers
pub eq_by : {a b : ℤ} (r : Difference a) (s : Difference b) → r.p + s.n ≡ s.p + r.n → a ≡ b
eq_by {a} {b} r s e = eq_is a b r.p r.n s.p s.n r.is s.is e
