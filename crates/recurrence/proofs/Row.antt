-- The arithmetic of one row, over plain numbers. The theorems of `Theorems` are inductions and a maximum
-- over these.
use mathlib.Core.Path.{◌≡◌, ap, ◌∙◌}
use mathlib.Core.List.{[], ◌∷◌}
use mathlib.Core.Logic.{◌⊎◌, inl, inr}
use Prim.Native.Nat.{ℕ, suc, ◌+◌, ◌*◌, ◌-◌, ◌<◌, ◌≤◌}
use native.Mathlib.Nat.{mul-le-mul_left, mul-le-mul, le_of_mul-le-mul_left}
use native.Mathlib.Omega.{arith}
use lib.IntN.{ℤ, pos, neg_ℤ, nat_abs, ◌+ℤ◌, ◌-ℤ◌, ◌*ℤ◌}
use Rattle.integers.proofs.Absolute.{abs-add, abs-mul}
use Rattle.integers.proofs.Normal.{solve, polys}
use Rattle.integers.proofs.Maximum.{le_or_lt}
use Rattle.recurrence.specs.Recurrence.{Light}

-- ---- the identity. R is r^k, b the right-hand side, y the reading and s the row's product with the
-- readings, z the residual and t the row's product with the digits; d is the next digit and t' the row's
-- product with the next digits.

pub identity_first : (b u : ℤ) → pos 1 *ℤ b -ℤ (u *ℤ pos 0 -ℤ pos 0) ≡ b +ℤ pos 0
identity_first b u = solve (b ∷ u ∷ []) (search polys depth 12) (search polys depth 12) tt

pub identity-next : (r u R b y s t z d t' : ℤ) → R *ℤ b -ℤ (u *ℤ y -ℤ s) ≡ z +ℤ t → (R *ℤ r) *ℤ b -ℤ (u *ℤ (r *ℤ y +ℤ d) -ℤ (r *ℤ s +ℤ pos 1 *ℤ t')) ≡ (r *ℤ (z +ℤ t) -ℤ u *ℤ d) +ℤ t'
identity-next r u R b y s t z d t' e =
    rw (← e) (solve (r ∷ u ∷ R ∷ b ∷ y ∷ s ∷ d ∷ t' ∷ []) (search polys depth 20 fits 4000) (search polys depth 20 fits 4000) tt)

pub one_more : (r y d : ℤ) → r *ℤ y +ℤ d ≡ r *ℤ y +ℤ pos 1 *ℤ d
one_more r y d = solve (r ∷ y ∷ d ∷ []) (search polys depth 12) (search polys depth 12) tt

-- ---- the bound on w: a is |z|, b is |Σ G d|, w is |z + Σ G d|

pub grown : (r p u c e S a b w : ℕ) → Light r p u c e S → e * a ≤ c * u → b ≤ S * p → w ≤ a + b → e * (r * w) ≤ (e * p + c) * u
grown r p u c e S a b w l h k m =
    let f : e * w ≤ e * (p * S) + c * u = omega (arith, mul-le-mul_left e m, mul-le-mul_left e k) in
    omega (arith, mul-le-mul_left r f, l.light)

-- ---- the error E = N r^k - D y of a reading: it solves the rows whose right-hand sides are D times what
-- the identity has on its right

pub error_lin : (N R D y : ℤ) → N *ℤ R -ℤ D *ℤ y ≡ R *ℤ N +ℤ neg_ℤ D *ℤ y
error_lin N R D y = solve (N ∷ R ∷ D ∷ y ∷ []) (search polys depth 14) (search polys depth 14) tt

-- ν is the row's product with N, w the identity's right
pub error_row : (u R D N ν b y s w : ℤ) → u *ℤ N -ℤ ν ≡ D *ℤ b → R *ℤ b -ℤ (u *ℤ y -ℤ s) ≡ w → u *ℤ (N *ℤ R -ℤ D *ℤ y) -ℤ (R *ℤ ν +ℤ neg_ℤ D *ℤ s) ≡ D *ℤ w
error_row u R D N ν b y s w e f = apart ∙ rw (e, ← f) together
  where
    apart : u *ℤ (N *ℤ R -ℤ D *ℤ y) -ℤ (R *ℤ ν +ℤ neg_ℤ D *ℤ s) ≡ R *ℤ (u *ℤ N -ℤ ν) -ℤ D *ℤ (u *ℤ y -ℤ s)
    apart = solve (u ∷ R ∷ D ∷ N ∷ ν ∷ y ∷ s ∷ []) (search polys depth 20 fits 4000) (search polys depth 20 fits 4000) tt

    together : R *ℤ (D *ℤ b) -ℤ D *ℤ (u *ℤ y -ℤ s) ≡ D *ℤ (R *ℤ b -ℤ (u *ℤ y -ℤ s))
    together = solve (u ∷ R ∷ D ∷ b ∷ y ∷ s ∷ []) (search polys depth 20 fits 4000) (search polys depth 20 fits 4000) tt

across : (a x w : ℤ) → a -ℤ x ≡ w → a ≡ x +ℤ w
across a x w e = rw (← e) (solve (a ∷ x ∷ []) (search polys depth 12) (search polys depth 12) tt)

pub error_abs : (u D : ℕ) (E x w : ℤ) → pos u *ℤ E -ℤ x ≡ pos D *ℤ w → u * nat_abs E ≤ nat_abs x + D * nat_abs w
error_abs u D E x w e =
    omega (arith, abs-mul (pos u) E, abs-mul (pos D) w, abs-add x (pos D *ℤ w), ap nat_abs (across (pos u *ℤ E) x (pos D *ℤ w) e))

-- ---- a light row weighs less than a unit

less_by : (q p u c e S : ℕ) → 0 < q → 0 < c → 0 < u → suc q * (e * (p * S) + c * u) ≤ (e * p + c) * u → S < u
less_by q p u c e S hq hc hu l = by_case (le_or_lt u S)
  where
    by_case : (u ≤ S) ⊎ (S < u) → S < u
    by_case (inl h) = absurd (omega (arith, mul-le-mul_left (e * p) h, mul-le-mul hq (mul-le-mul hc hu)))
    by_case (inr h) = h

pub light_less : (r p u c e S : ℕ) → 1 < r → 0 < c → 0 < u → Light r p u c e S → S < u
light_less r p u c e S hr hc hu l =
    let f : r ≡ suc (r - 1) = omega arith in
    less_by (r - 1) p u c e S (omega arith) hc hu (rw f at l.light)

-- ---- the row where the error M is largest: a is |z|, b is |Σ G d|

cancel : (q p c e S x M D a b : ℕ) → 0 < x → 0 < e → (S + x) * M ≤ S * M + D * (a + b) → e * a ≤ c * (S + x) → b ≤ S * p → suc q * (e * (p * S) + c * (S + x)) ≤ (e * p + c) * (S + x) → q * M ≤ p * D
cancel q p c e S x M D a b hx he g h k l =
    let s : e * (a + b) ≤ e * (p * S) + c * (S + x) = omega (arith, mul-le-mul_left e k) in
    let t : q * (e * (p * S) + c * (S + x)) ≤ e * p * x = omega arith in
    let m : x * M ≤ D * (a + b) = omega arith in
    let v : q * e * (x * M) ≤ q * e * (D * (a + b)) = mul-le-mul_left (q * e) m in
    let w : (q * D) * (e * (a + b)) ≤ (q * D) * (e * (p * S) + c * (S + x)) = mul-le-mul_left (q * D) s in
    let y : D * (q * (e * (p * S) + c * (S + x))) ≤ D * (e * p * x) = mul-le-mul_left D t in
    le_of_mul-le-mul_left {k = e * x} (omega arith) (omega (arith, mul-le-mul he hx))

pub farthest : (r p u c e S M D a b : ℕ) → 1 < r → 0 < c → 0 < e → 0 < u → Light r p u c e S → e * a ≤ c * u → b ≤ S * p → u * M ≤ S * M + D * (a + b) → (r - 1) * M ≤ p * D
farthest r p u c e S M D a b hr hc he hu l h k g =
    let f : r ≡ suc (r - 1) = omega arith in
    let m : S < u = light_less r p u c e S hr hc hu l in
    let o : u ≡ S + (u - S) = omega arith in
    let l' : suc (r - 1) * (e * (p * S) + c * u) ≤ (e * p + c) * u = rw f at l.light in
    cancel (r - 1) p c e S (u - S) M D a b (omega arith) he (rw o at g) (rw o at h) k (rw o at l')
