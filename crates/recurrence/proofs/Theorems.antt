-- The proofs of the theorems on the recurrence.
use mathlib.Core.Path.{◌≡◌, refl, sym, ◌∙◌}
use mathlib.Core.List.{[], ◌∷◌}
use Prim.Native.Nat.{ℕ, zero, suc, ◌+◌, ◌*◌, ◌-◌, ◌<◌, ◌≤◌, ◌^◌}
use native.Mathlib.Nat.{pow-zero, pow-suc, mul-pos, mul-le-mul_left, le_of_mul-le-mul_left}
use native.Mathlib.Omega.{arith}
use lib.IntN.{ℤ, pos, neg_ℤ, nat_abs, ◌+ℤ◌, ◌-ℤ◌, ◌*ℤ◌}
use Rattle.integers.proofs.Absolute.{abs-add, abs-mul}
use Rattle.integers.specs.Sum.{dot, weight}
use Rattle.integers.proofs.Product.{dot_lin, dot-none, abs-dot}
use Rattle.integers.proofs.Maximum.{Largest, largest_exists}
use Rattle.integers.proofs.Normal.{solve, polys}
use Rattle.integers.proofs.Sum.{sum-zero, sum-suc, sum_ext, sum-scale}
use Rattle.recurrence.specs.Recurrence.{Solves, select, shifted, next_digit, next_residual, residual, reading, digit_sum, Run, Light, LightRows, WithinBounds}
use Rattle.recurrence.proofs.Selection.{select_selects}
use Rattle.recurrence.proofs.Row.{identity_first, identity-next, one_more, grown, error_lin, error_row, error_abs, farthest}
use Rattle.recurrence.specs.Theorems.{StepsRun, ReadingSum, Identity, BoundsKept, BoundsKeptNext, Distance, SelectDistance}

pub steps-run : StepsRun
unfolding residual reading next_residual next_digit
steps-run n r u sel G B =
    record { z_first = λ i l. refl; d_first = λ i l. refl; y_first = λ i l. refl; z_next = λ k i l. refl; y_next = λ k i l. refl }

pub reading-sum : ReadingSum
unfolding reading digit_sum
reading-sum r d zero i = sym (sum-zero _)
reading-sum r d (suc k) i =
    let m : suc k - suc k ≡ 0 = omega arith in
    rw (
      sum-suc k (λ j. d (suc j) i *ℤ pos (r ^ (suc k - suc j))),
      sum_ext k (λ j. d (suc j) i *ℤ pos (r ^ (suc k - suc j))) (λ j. pos r *ℤ (d (suc j) i *ℤ pos (r ^ (k - suc j)))) place,
      sum-scale k (pos r) (λ j. d (suc j) i *ℤ pos (r ^ (k - suc j))),
      ← reading-sum r d k i,
      m,
      pow-zero r,
    )
    (last_place (pos r *ℤ reading r d k i) (d (suc k) i))
  where
    higher : (x y z : ℤ) → x *ℤ (y *ℤ z) ≡ z *ℤ (x *ℤ y)
    higher x y z = solve (x ∷ y ∷ z ∷ []) (search polys depth 12) (search polys depth 12) tt

    -- a step more puts each digit one place higher, and its own in the last place
    place : (j : ℕ) → j < k → d (suc j) i *ℤ pos (r ^ (suc k - suc j)) ≡ pos r *ℤ (d (suc j) i *ℤ pos (r ^ (k - suc j)))
    place j l =
        let e : suc k - suc j ≡ suc (k - suc j) = omega arith in
        rw (e, pow-suc r (k - suc j)) (higher (d (suc j) i) (pos (r ^ (k - suc j))) (pos r))

    last_place : (x y : ℤ) → x +ℤ y ≡ x +ℤ y *ℤ pos 1
    last_place x y = solve (x ∷ y ∷ []) (search polys depth 12) (search polys depth 12) tt

pub identity : {n r u : ℕ} {G : ℕ → ℕ → ℤ} {B : ℕ → ℤ} {z d y : ℕ → ℕ → ℤ} → Identity n r u G B z d y
unfolding shifted
identity {n} {r} {u} {G} {B} {z} {d} {y} run zero i l =
    rw (pow-zero r, run.y_first i l, run.z_first i l, dot-none n (G i) (y 0) run.y_first, dot-none n (G i) (d 0) run.d_first)
    (identity_first (B i) (pos u))
identity {n} {r} {u} {G} {B} {z} {d} {y} run (suc k) i l =
    let s : dot n (G i) (y (suc k)) ≡ pos r *ℤ dot n (G i) (y k) +ℤ pos 1 *ℤ dot n (G i) (d (suc k)) =
    dot_lin n (G i) (y k) (d (suc k)) (y (suc k)) (pos r) (pos 1) (λ j m. run.y_next k j m ∙ one_more (pos r) (y k j) (d (suc k) j)) in
    rw (pow-suc r k, run.y_next k i l, run.z_next k i l, s)
    (identity-next (pos r) (pos u) (pos (r ^ k)) (B i) (y k i) (dot n (G i) (y k)) (dot n (G i) (d k)) (z k i) (d (suc k) i) (dot n (G i) (d (suc k)))
    (identity run k i l))

-- Where the rows are light and the bounds are kept, |w| is at most p + c / e units.
pub bound : {n r p u c e : ℕ} {G : ℕ → ℕ → ℤ} {z d : ℕ → ℤ} → LightRows n r p u c e G → WithinBounds n p u c e z d →
    (i : ℕ) → i < n → e * nat_abs (shifted n r G z d i) ≤ (e * p + c) * u
unfolding shifted
bound {n} {r} {p} {u} {c} {e} {G} {z} {d} light h i l =
    rw (abs-mul (pos r) (z i +ℤ dot n (G i) d))
    (grown r p u c e (weight n (G i)) (nat_abs (z i)) (nat_abs (dot n (G i) d)) (nat_abs (z i +ℤ dot n (G i) d))
    (light.rows i l) (h.z_small i l) (abs-dot n (G i) d p h.d_small) (abs-add (z i) (dot n (G i) d)))

pub bounds_kept-next : {n r p u c e : ℕ} {sel : ℤ → ℤ} {G : ℕ → ℕ → ℤ} {z d : ℕ → ℤ} → BoundsKeptNext n r p u c e sel G z d
unfolding next_residual next_digit
bounds_kept-next {n} {r} {G} {z} {d} rule light h =
    record {
      z_small = λ i l. rule.left (shifted n r G z d i) (bound light h i l);
      d_small = λ i l. rule.small (shifted n r G z d i) (bound light h i l);
    }

pub bounds_kept : {n r p u c e : ℕ} {sel : ℤ → ℤ} {G : ℕ → ℕ → ℤ} → BoundsKept n r p u c e sel G
unfolding residual
bounds_kept B rule light small zero = record { z_small = small; d_small = λ i l. omega arith }
bounds_kept B rule light small (suc k) = bounds_kept-next rule light (bounds_kept B rule light small k)

-- the error of the readings after k steps, times D r^k, is a vector that solves the same rows with other
-- right-hand sides
module _ {n r u D : ℕ} {G : ℕ → ℕ → ℤ} {B N : ℕ → ℤ} {z d y : ℕ → ℕ → ℤ} (run : Run n r u G B z d y) (sol : Solves n u D G B N) (k : ℕ) where
  abbrev error : ℕ → ℤ
  error i = N i *ℤ pos (r ^ k) -ℤ pos D *ℤ y k i

  error_is : (i : ℕ) → i < n → pos u *ℤ error i -ℤ dot n (G i) error ≡ pos D *ℤ (z k i +ℤ dot n (G i) (d k))
  error_is i l =
      rw (dot_lin n (G i) N (y k) error (pos (r ^ k)) (neg_ℤ (pos D)) (λ j m. error_lin (N j) (pos (r ^ k)) (pos D) (y k j)))
      (error_row (pos u) (pos (r ^ k)) (pos D) (N i) (dot n (G i) N) (B i) (y k i) (dot n (G i) (y k)) (z k i +ℤ dot n (G i) (d k))
      (sol.solves i l) (identity run k i l))

  error_largest : {p c e : ℕ} → 1 < r → 0 < c → 0 < e → 0 < u → LightRows n r p u c e G → WithinBounds n p u c e (z k) (d k) →
      (m : Largest n (λ i. nat_abs (error i))) → (r - 1) * nat_abs (error m.top) ≤ p * D
  error_largest {p} {c} {e} hr hc he hu light h m =
      let i : ℕ = m.top in
      let s : nat_abs (dot n (G i) error) ≤ weight n (G i) * nat_abs (error i) = abs-dot n (G i) error (nat_abs (error i)) m.most in
      let f : u * nat_abs (error i) ≤ nat_abs (dot n (G i) error) + D * nat_abs (z k i +ℤ dot n (G i) (d k)) =
      error_abs u D (error i) (dot n (G i) error) (z k i +ℤ dot n (G i) (d k)) (error_is i m.inside) in
      farthest r p u c e (weight n (G i)) (nat_abs (error i)) D (nat_abs (z k i)) (nat_abs (dot n (G i) (d k))) hr hc he hu
      (light.rows i m.inside) (h.z_small i m.inside) (abs-dot n (G i) (d k) p h.d_small)
      (omega (arith, mul-le-mul_left D (abs-add (z k i) (dot n (G i) (d k)))))

pub distance : {n r p u c e D : ℕ} {G : ℕ → ℕ → ℤ} {B N : ℕ → ℤ} {z d y : ℕ → ℕ → ℤ} → Distance n r p u c e D G B N z d y
distance {n} {r} hr hc he hu light run sol k h i l =
    let m = largest_exists n (λ j. nat_abs (error run sol k j)) (omega arith) in
    omega (arith, error_largest run sol k hr hc he hu light h m, mul-le-mul_left (r - 1) (m.most i l))

pub select_distance : {n r p u D : ℕ} {G : ℕ → ℕ → ℤ} {B N : ℕ → ℤ} → SelectDistance n r p u D G B N
select_distance {n} {r} {p} {u} {G} {B} hr hu light small sol k i l =
    distance hr (omega arith) (omega arith) hu light (steps-run n r u (select p u) G B) sol k
    (bounds_kept B (select_selects p u hu) light small k) i l

-- Light rows are short: with a residual bound of 1/2 or more and digits below r, a row weighs at most a
-- quarter of a unit.
pub short : (r p u c e S : ℕ) → 2 ≤ r → 1 ≤ p → p ≤ r - 1 → 0 < e → e ≤ 2 * c → Light r p u c e S → 4 * S ≤ u
short r p u c e S hr hp h he hc l =
    let f : c * u * suc p ≤ c * u * r = mul-le-mul_left (c * u) (omega arith) in
    let g : p * u * e ≤ p * u * (2 * c) = mul-le-mul_left (p * u) hc in
    let k : e * p * S * 2 ≤ e * p * S * r = mul-le-mul_left (e * p * S) hr in
    le_of_mul-le-mul_left {k = e * p} (omega (arith, l.light)) (mul-pos he hp)
