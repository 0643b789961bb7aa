-- A normaliser for the ring ℤ: `solve` proves every identity of sums, differences and products in a line.
--
--   squares : (a b : ℤ) → (a +ℤ b) *ℤ (a -ℤ b) ≡ a *ℤ a -ℤ b *ℤ b
--   squares a b = solve (a ∷ b ∷ []) (search polys depth 12) (search polys depth 12) tt
--
-- The list names the unknowns, which may be calls, as `f n`. `search polys` reads each side as a polynomial
-- in them; its depth is about the nesting of the larger side plus the length of the list plus 2. `tt` says
-- that the difference of the two sides computes to 0, so a false identity is refused. A large goal wants
-- `search polys depth 20 fits 4000`. `pos u` at a variable u is read as a numeral and gets stuck: state such
-- an identity over a variable of ℤ, and apply it.
use mathlib.Core.Path.{◌≡◌, refl, sym, ap, ap₂, ◌∙◌}
use mathlib.Core.Bool.{Bool, true, false, cond}
use mathlib.Core.List.{List, [], ◌∷◌}
use Prim.Native.Nat.{ℕ, suc}
use lib.Dec.{T, leb, ltb, eqb, eqb→eq}
use lib.ListN.{get_or}
use native.Mathlib.Omega.{arith}
use lib.IntN.{ℤ, pos, negsuc, neg_ℤ, nat_abs, ◌+ℤ◌, ◌*ℤ◌, +ℤ_idl, +ℤ_idr, +ℤ_assoc, neg_ℤ-+ℤ, zero-*ℤ, *ℤ-zero}
use Rattle.integers.proofs.Absolute.{abs-zero}
use Rattle.integers.proofs.Ring.{+ℤ-left-comm, *ℤ-assoc, *ℤ-left-comm, *ℤ-distl, *ℤ-distr, *ℤ-negl, one-*ℤ, *ℤ-one, eq_of_sub}

-- both tests pass
abbrev pub both : Bool → Bool → Bool
both true b = b
both false b = false

pub both_left : (a b : Bool) → T (both a b) → T a
both_left true b t = tt
both_left false b t = t

pub both_right : (a b : Bool) → T (both a b) → T b
both_right true b t = t
both_right false b t = absurd t

-- ---- polynomials: terms in order, each a coefficient and the sorted list of its variables

pub data Pol : Type 0 where
  nil : Pol
  term : ℤ → List ℕ → Pol → Pol

-- what a list of variables, multiplied, and a polynomial stand for where the variables have the values ρ
abbrev pub monomial : List ℤ → List ℕ → ℤ
monomial ρ [] = pos 1
monomial ρ (i ∷ m) = get_or ρ i (pos 0) *ℤ monomial ρ m

abbrev pub value : List ℤ → Pol → ℤ
value ρ nil = pos 0
value ρ (term c m p) = c *ℤ monomial ρ m +ℤ value ρ p

-- lists of variables
abbrev pub insert : ℕ → List ℕ → List ℕ
insert i [] = i ∷ []
insert i (j ∷ m) = cond (leb i j) (i ∷ j ∷ m) (j ∷ insert i m)

abbrev pub merge : List ℕ → List ℕ → List ℕ
merge [] n = n
merge (i ∷ m) n = insert i (merge m n)

abbrev pub same : List ℕ → List ℕ → Bool
same [] [] = true
same [] (j ∷ n) = false
same (i ∷ m) [] = false
same (i ∷ m) (j ∷ n) = both (eqb i j) (same m n)

abbrev pub before : List ℕ → List ℕ → Bool
before [] [] = false
before [] (j ∷ n) = true
before (i ∷ m) [] = false
before (i ∷ m) (j ∷ n) = cond (eqb i j) (before m n) (ltb i j)

-- sums, products and negation
abbrev pub add_term : ℤ → List ℕ → Pol → Pol
add_term c m nil = term c m nil
add_term c m (term d k p) =
    cond (same m k) (term (c +ℤ d) m p) (cond (before m k) (term c m (term d k p)) (term d k (add_term c m p)))

abbrev pub add_pol : Pol → Pol → Pol
add_pol nil q = q
add_pol (term c m p) q = add_term c m (add_pol p q)

abbrev pub mul_term : ℤ → List ℕ → Pol → Pol
mul_term c m nil = nil
mul_term c m (term d k p) = add_term (c *ℤ d) (merge m k) (mul_term c m p)

abbrev pub mul_pol : Pol → Pol → Pol
mul_pol nil q = nil
mul_pol (term c m p) q = add_pol (mul_term c m q) (mul_pol p q)

abbrev pub neg_pol : Pol → Pol
neg_pol nil = nil
neg_pol (term c m p) = term (neg_ℤ c) m (neg_pol p)

-- every coefficient is 0
abbrev pub vanishes : Pol → Bool
vanishes nil = true
vanishes (term c m p) = both (eqb (nat_abs c) 0) (vanishes p)

-- ---- each operation has the value that its name says

cond_vars : (b : Bool) (x y : List ℕ) (Q : List ℕ → Type 0) → Q x → Q y → Q (cond b x y)
cond_vars true x y Q f g = f
cond_vars false x y Q f g = g

cond_pol : (b : Bool) (x y : Pol) (Q : Pol → Type 0) → (T b → Q x) → Q y → Q (cond b x y)
cond_pol true x y Q f g = f tt
cond_pol false x y Q f g = g

same_eq : (m n : List ℕ) → T (same m n) → m ≡ n
same_eq [] [] t = refl
same_eq [] (j ∷ n) t = absurd t
same_eq (i ∷ m) [] t = absurd t
same_eq (i ∷ m) (j ∷ n) t =
    ap₂ (λ (x : ℕ) (y : List ℕ). x ∷ y) (eqb→eq i j (both_left (eqb i j) (same m n) t)) (same_eq m n (both_right (eqb i j) (same m n) t))

collect : (c d x p : ℤ) → (c +ℤ d) *ℤ x +ℤ p ≡ c *ℤ x +ℤ (d *ℤ x +ℤ p)
collect c d x p = rw (*ℤ-distr c d x) (+ℤ_assoc (c *ℤ x) (d *ℤ x) p)

exchange : (c d x y : ℤ) → (c *ℤ d) *ℤ (x *ℤ y) ≡ (c *ℤ x) *ℤ (d *ℤ y)
exchange c d x y = rw (*ℤ-assoc c d (x *ℤ y), *ℤ-left-comm d x y, *ℤ-assoc c x (d *ℤ y))

module _ (ρ : List ℤ) where
  insert_value : (i : ℕ) (m : List ℕ) → monomial ρ (insert i m) ≡ get_or ρ i (pos 0) *ℤ monomial ρ m
  insert_value i [] = refl
  insert_value i (j ∷ m) =
      cond_vars (leb i j) (i ∷ j ∷ m) (j ∷ insert i m) (λ n. monomial ρ n ≡ get_or ρ i (pos 0) *ℤ (get_or ρ j (pos 0) *ℤ monomial ρ m)) refl
      (rw (insert_value i m) (*ℤ-left-comm (get_or ρ j (pos 0)) (get_or ρ i (pos 0)) (monomial ρ m)))

  merge_value : (m n : List ℕ) → monomial ρ (merge m n) ≡ monomial ρ m *ℤ monomial ρ n
  merge_value [] n = sym (one-*ℤ (monomial ρ n))
  merge_value (i ∷ m) n =
      insert_value i (merge m n) ∙ rw (merge_value m n) (sym (*ℤ-assoc (get_or ρ i (pos 0)) (monomial ρ m) (monomial ρ n)))

  add_term_value : (c : ℤ) (m : List ℕ) (p : Pol) → value ρ (add_term c m p) ≡ c *ℤ monomial ρ m +ℤ value ρ p
  add_term_value c m nil = refl
  add_term_value c m (term d k p) =
      cond_pol (same m k) (term (c +ℤ d) m p) (cond (before m k) (term c m (term d k p)) (term d k (add_term c m p))) Sum
      (λ t. rw (← same_eq m k t) (collect c d (monomial ρ m) (value ρ p)))
      (cond_pol (before m k) (term c m (term d k p)) (term d k (add_term c m p)) Sum (λ t. refl)
      (rw (add_term_value c m p) (+ℤ-left-comm (d *ℤ monomial ρ k) (c *ℤ monomial ρ m) (value ρ p))))
    where
      Sum : Pol → Type 0
      Sum q = value ρ q ≡ c *ℤ monomial ρ m +ℤ (d *ℤ monomial ρ k +ℤ value ρ p)

  add_pol_value : (p q : Pol) → value ρ (add_pol p q) ≡ value ρ p +ℤ value ρ q
  add_pol_value nil q = sym (+ℤ_idl (value ρ q))
  add_pol_value (term c m p) q =
      add_term_value c m (add_pol p q) ∙ rw (add_pol_value p q) (sym (+ℤ_assoc (c *ℤ monomial ρ m) (value ρ p) (value ρ q)))

  mul_term_value : (c : ℤ) (m : List ℕ) (p : Pol) → value ρ (mul_term c m p) ≡ (c *ℤ monomial ρ m) *ℤ value ρ p
  mul_term_value c m nil = sym (*ℤ-zero (c *ℤ monomial ρ m))
  mul_term_value c m (term d k p) =
      add_term_value (c *ℤ d) (merge m k) (mul_term c m p)
      ∙ rw (merge_value m k, mul_term_value c m p, exchange c d (monomial ρ m) (monomial ρ k))
      (sym (*ℤ-distl (c *ℤ monomial ρ m) (d *ℤ monomial ρ k) (value ρ p)))

  mul_pol_value : (p q : Pol) → value ρ (mul_pol p q) ≡ value ρ p *ℤ value ρ q
  mul_pol_value nil q = sym (zero-*ℤ (value ρ q))
  mul_pol_value (term c m p) q =
      add_pol_value (mul_term c m q) (mul_pol p q)
      ∙ rw (mul_term_value c m q, mul_pol_value p q) (sym (*ℤ-distr (c *ℤ monomial ρ m) (value ρ p) (value ρ q)))

  neg_pol_value : (p : Pol) → value ρ (neg_pol p) ≡ neg_ℤ (value ρ p)
  neg_pol_value nil = refl
  neg_pol_value (term c m p) =
      rw (neg_pol_value p, *ℤ-negl c (monomial ρ m)) (sym (neg_ℤ-+ℤ (c *ℤ monomial ρ m) (value ρ p)))

  vanishes_value : (p : Pol) → T (vanishes p) → value ρ p ≡ pos 0
  vanishes_value nil t = refl
  vanishes_value (term c m p) t =
      let z : nat_abs c ≡ 0 = eqb→eq (nat_abs c) 0 (both_left (eqb (nat_abs c) 0) (vanishes p) t) in
      let e : c ≡ pos 0 = abs-zero c (omega arith) in
      rw (e, zero-*ℤ (monomial ρ m), vanishes_value p (both_right (eqb (nat_abs c) 0) (vanishes p) t))

-- ---- a number as the value of a polynomial, found by `search polys`

pub record Poly (ρ : List ℤ) (z : ℤ) : Type 0 where
  pub pol : Pol
  pub is : value ρ pol ≡ z

-- where a number stands in the list of unknowns
pub record At (ρ : List ℤ) (z : ℤ) : Type 0 where
  pub place : ℕ
  pub is : get_or ρ place (pos 0) ≡ z

abbrev pub here : {ρ : List ℤ} {z : ℤ} → At (z ∷ ρ) z
here = record { place = 0; is = refl }

abbrev pub there : {ρ : List ℤ} {y z : ℤ} → At ρ z → At (y ∷ ρ) z
there r = record { place = suc r.place; is = r.is }

pub var_is : (ρ : List ℤ) (i : ℕ) → value ρ (term (pos 1) (i ∷ []) nil) ≡ get_or ρ i (pos 0)
var_is ρ i = rw (*ℤ-one (get_or ρ i (pos 0)), one-*ℤ (get_or ρ i (pos 0)), +ℤ_idr (get_or ρ i (pos 0)))

pub const_is : (ρ : List ℤ) (c : ℤ) → value ρ (term c [] nil) ≡ c
const_is ρ c = rw (*ℤ-one c, +ℤ_idr c)

pub sum_is : (ρ : List ℤ) (a b : ℤ) (p q : Pol) → value ρ p ≡ a → value ρ q ≡ b → value ρ (add_pol p q) ≡ a +ℤ b
sum_is ρ a b p q e f = add_pol_value ρ p q ∙ ap₂ (λ (x y : ℤ). x +ℤ y) e f

pub product_is : (ρ : List ℤ) (a b : ℤ) (p q : Pol) → value ρ p ≡ a → value ρ q ≡ b → value ρ (mul_pol p q) ≡ a *ℤ b
product_is ρ a b p q e f = mul_pol_value ρ p q ∙ ap₂ (λ (x y : ℤ). x *ℤ y) e f

pub negation_is : (ρ : List ℤ) (a : ℤ) (p : Pol) → value ρ p ≡ a → value ρ (neg_pol p) ≡ neg_ℤ a
negation_is ρ a p e = neg_pol_value ρ p ∙ ap neg_ℤ e

abbrev pub poly_var : {ρ : List ℤ} {z : ℤ} → At ρ z → Poly ρ z
poly_var {ρ} {z} r = record { pol = term (pos 1) (r.place ∷ []) nil; is = var_is ρ r.place ∙ r.is }

abbrev pub poly_pos : {ρ : List ℤ} (k : ℕ) → Poly ρ (pos k)
poly_pos {ρ} k = record { pol = term (pos k) [] nil; is = const_is ρ (pos k) }

abbrev pub poly_negsuc : {ρ : List ℤ} (k : ℕ) → Poly ρ (negsuc k)
poly_negsuc {ρ} k = record { pol = term (negsuc k) [] nil; is = const_is ρ (negsuc k) }

abbrev pub poly_add : {ρ : List ℤ} {a b : ℤ} → Poly ρ a → Poly ρ b → Poly ρ (a +ℤ b)
poly_add {ρ} {a} {b} r s = record { pol = add_pol r.pol s.pol; is = sum_is ρ a b r.pol s.pol r.is s.is }

abbrev pub poly_mul : {ρ : List ℤ} {a b : ℤ} → Poly ρ a → Poly ρ b → Poly ρ (a *ℤ b)
poly_mul {ρ} {a} {b} r s = record { pol = mul_pol r.pol s.pol; is = product_is ρ a b r.pol s.pol r.is s.is }

abbrev pub poly_neg : {ρ : List ℤ} {a : ℤ} → Poly ρ a → Poly ρ (neg_ℤ a)
poly_neg {ρ} {a} r = record { pol = neg_pol r.pol; is = negation_is ρ a r.pol r.is }

pub ruleset polys = (poly_add, poly_mul, poly_neg, poly_pos, poly_negsuc, poly_var, here, there)

pub solve : (ρ : List ℤ) {a b : ℤ} (r : Poly ρ a) (s : Poly ρ b) → T (vanishes (add_pol r.pol (neg_pol s.pol))) → a ≡ b
solve ρ {a} {b} r s t =
    eq_of_sub a b (sym (sum_is ρ a (neg_ℤ b) r.pol (neg_pol s.pol) r.is (negation_is ρ b s.pol s.is))
    ∙ vanishes_value ρ (add_pol r.pol (neg_pol s.pol)) t)
