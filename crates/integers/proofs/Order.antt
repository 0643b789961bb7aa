-- The order of ℤ. `omega zarith` proves what follows from orders and equations of ℤ without arithmetic inside
-- them, as transitivity; with sums and products inside, use the module `Linear`. A branch's test, `lt_z a b ≡
-- true`, is read by `omega zarith` too.
use mathlib.Core.Path.{◌≡◌, refl, sym, subst}
use mathlib.Core.Bool.{Bool, true, false, not}
use Prim.Native.Nat.{ℕ, ◌+◌, ◌*◌, ◌<◌, ◌≤◌}
use native.Mathlib.Nat.{mul-pos}
use native.Mathlib.Omega.{arith}
use lib.Dec.{T, leb→le, le→leb, ltb→lt, lt→ltb, nltb→le, nleb→lt}
use lib.IntN.{ℤ, pos, negsuc, ◌+ℤ◌, ◌*ℤ◌}
use lib.Signed.{le_z, lt_z, ◌≤ℤ◌, ◌<ℤ◌}
use Rattle.integers.proofs.Parts.{pos_part, neg_part, parts_inj, parts_add, Difference}

-- ---- an order of ℤ is one of ℕ, across the parts

leZ→parts : (a b : ℤ) → T (le_z a b) → pos_part a + neg_part b ≤ pos_part b + neg_part a
leZ→parts (pos a) (pos b) t = omega (arith, leb→le a b t)
leZ→parts (pos a) (negsuc b) t = absurd t
leZ→parts (negsuc a) (pos b) t = omega arith
leZ→parts (negsuc a) (negsuc b) t = omega (arith, leb→le b a t)

parts→leZ : (a b : ℤ) → pos_part a + neg_part b ≤ pos_part b + neg_part a → T (le_z a b)
parts→leZ (pos a) (pos b) h = le→leb a b (omega arith)
parts→leZ (pos a) (negsuc b) h = absurd (omega arith)
parts→leZ (negsuc a) (pos b) h = tt
parts→leZ (negsuc a) (negsuc b) h = le→leb b a (omega arith)

ltZ→parts : (a b : ℤ) → T (lt_z a b) → pos_part a + neg_part b < pos_part b + neg_part a
ltZ→parts (pos a) (pos b) t = omega (arith, ltb→lt a b t)
ltZ→parts (pos a) (negsuc b) t = absurd t
ltZ→parts (negsuc a) (pos b) t = omega arith
ltZ→parts (negsuc a) (negsuc b) t = omega (arith, ltb→lt b a t)

parts→ltZ : (a b : ℤ) → pos_part a + neg_part b < pos_part b + neg_part a → T (lt_z a b)
parts→ltZ (pos a) (pos b) h = lt→ltb a b (omega arith)
parts→ltZ (pos a) (negsuc b) h = absurd (omega arith)
parts→ltZ (negsuc a) (pos b) h = tt
parts→ltZ (negsuc a) (negsuc b) h = lt→ltb b a (omega arith)

not-leZ→parts : (a b : ℤ) → T (not (le_z a b)) → pos_part b + neg_part a < pos_part a + neg_part b
not-leZ→parts (pos a) (pos b) t = omega (arith, nleb→lt a b t)
not-leZ→parts (pos a) (negsuc b) t = omega arith
not-leZ→parts (negsuc a) (pos b) t = absurd t
not-leZ→parts (negsuc a) (negsuc b) t = omega (arith, nleb→lt b a t)

not-ltZ→parts : (a b : ℤ) → T (not (lt_z a b)) → pos_part b + neg_part a ≤ pos_part a + neg_part b
not-ltZ→parts (pos a) (pos b) t = omega (arith, nltb→le a b t)
not-ltZ→parts (pos a) (negsuc b) t = omega arith
not-ltZ→parts (negsuc a) (pos b) t = absurd t
not-ltZ→parts (negsuc a) (negsuc b) t = omega (arith, nltb→le b a t)

-- ---- what a branch's test tells

pub ltZ_true : (a b : ℤ) → lt_z a b ≡ true → pos_part a + neg_part b < pos_part b + neg_part a
ltZ_true a b e = ltZ→parts a b (subst T (sym e) tt)

pub ltZ_false : (a b : ℤ) → lt_z a b ≡ false → pos_part b + neg_part a ≤ pos_part a + neg_part b
ltZ_false a b e = not-ltZ→parts a b (subst (λ (t : Bool). T (not t)) (sym e) tt)

pub leZ_true : (a b : ℤ) → le_z a b ≡ true → pos_part a + neg_part b ≤ pos_part b + neg_part a
leZ_true a b e = leZ→parts a b (subst T (sym e) tt)

pub leZ_false : (a b : ℤ) → le_z a b ≡ false → pos_part b + neg_part a < pos_part a + neg_part b
leZ_false a b e = not-leZ→parts a b (subst (λ (t : Bool). T (not t)) (sym e) tt)

-- ---- the rules by which `omega` reads a hypothesis of ℤ and turns a goal of ℤ

pub le→parts : (a b : ℤ) → a ≤ℤ b → pos_part a + neg_part b ≤ pos_part b + neg_part a
le→parts a b h = leZ→parts a b h.le

pub parts→le : (a b : ℤ) → pos_part a + neg_part b ≤ pos_part b + neg_part a → a ≤ℤ b
parts→le a b h = record { le = parts→leZ a b h }

pub lt→parts : (a b : ℤ) → a <ℤ b → pos_part a + neg_part b < pos_part b + neg_part a
lt→parts a b h = ltZ→parts a b h.lt

pub parts→lt : (a b : ℤ) → pos_part a + neg_part b < pos_part b + neg_part a → a <ℤ b
parts→lt a b h = record { lt = parts→ltZ a b h }

pub eq→parts : (a b : ℤ) → a ≡ b → pos_part a + neg_part b ≡ pos_part b + neg_part a
eq→parts a b e = subst (λ (z : ℤ). pos_part a + neg_part z ≡ pos_part z + neg_part a) e refl

pub ruleset zarith = (arith, le→parts, parts→le, lt→parts, parts→lt, eq→parts, parts_inj, ltZ_true, ltZ_false, leZ_true, leZ_false)

-- ---- orders of differences, both ways

le_is : (a b : ℤ) (p n q m : ℕ) → pos_part a + n ≡ p + neg_part a → pos_part b + m ≡ q + neg_part b → p + m ≤ q + n → pos_part a + neg_part b ≤ pos_part b + neg_part a
le_is a b p n q m h k e = omega arith

is_le : (a b : ℤ) (p n q m : ℕ) → pos_part a + n ≡ p + neg_part a → pos_part b + m ≡ q + neg_part b → pos_part a + neg_part b ≤ pos_part b + neg_part a → p + m ≤ q + n
is_le a b p n q m h k e = omega arith

lt_is : (a b : ℤ) (p n q m : ℕ) → pos_part a + n ≡ p + neg_part a → pos_part b + m ≡ q + neg_part b → p + m < q + n → pos_part a + neg_part b < pos_part b + neg_part a
lt_is a b p n q m h k e = omega arith

is_lt : (a b : ℤ) (p n q m : ℕ) → pos_part a + n ≡ p + neg_part a → pos_part b + m ≡ q + neg_part b → pos_part a + neg_part b < pos_part b + neg_part a → p + m < q + n
is_lt a b p n q m h k e = omega arith

is_eq : (a b : ℤ) (p n q m : ℕ) → pos_part a + n ≡ p + neg_part a → pos_part b + m ≡ q + neg_part b → pos_part a + neg_part b ≡ pos_part b + neg_part a → p + m ≡ q + n
is_eq a b p n q m h k e = omega arith

pub le_by : {a b : ℤ} (r : Difference a) (s : Difference b) → r.p + s.n ≤ s.p + r.n → a ≤ℤ b
le_by {a} {b} r s e = parts→le a b (le_is a b r.p r.n s.p s.n r.is s.is e)

pub lt_by : {a b : ℤ} (r : Difference a) (s : Difference b) → r.p + s.n < s.p + r.n → a <ℤ b
lt_by {a} {b} r s e = parts→lt a b (lt_is a b r.p r.n s.p s.n r.is s.is e)

pub of_le : {a b : ℤ} (r : Difference a) (s : Difference b) → a ≤ℤ b → r.p + s.n ≤ s.p + r.n
of_le {a} {b} r s h = is_le a b r.p r.n s.p s.n r.is s.is (le→parts a b h)

pub of_lt : {a b : ℤ} (r : Difference a) (s : Difference b) → a <ℤ b → r.p + s.n < s.p + r.n
of_lt {a} {b} r s h = is_lt a b r.p r.n s.p s.n r.is s.is (lt→parts a b h)

pub of_eq : {a b : ℤ} (r : Difference a) (s : Difference b) → a ≡ b → r.p + s.n ≡ s.p + r.n
of_eq {a} {b} r s h = is_eq a b r.p r.n s.p s.n r.is s.is (eq→parts a b h)

-- ---- sums and products

pub le_add : {a b c d : ℤ} → a ≤ℤ b → c ≤ℤ d → (a +ℤ c) ≤ℤ (b +ℤ d)
le_add {a} {b} {c} {d} h k = omega (zarith, parts_add a c, parts_add b d)

pub mul_positive : {a b : ℤ} → pos 0 <ℤ a → pos 0 <ℤ b → pos 0 <ℤ (a *ℤ b)
mul_positive {a = pos a} {b = pos b} h k =
    parts→lt (pos 0) (pos (a * b)) (omega (arith, mul-pos {m = a} {n = b} (ltb→lt 0 a h.lt) (ltb→lt 0 b k.lt)))
mul_positive {a = pos a} {b = negsuc b} h k = absurd k.lt
mul_positive {a = negsuc a} {b} h k = absurd h.lt
