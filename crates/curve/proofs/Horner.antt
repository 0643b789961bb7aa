-- Horner's rule for whole numbers, with a start index. Its last-coefficient law gives both the sums of
-- `Curve` and the telescoping sum by which row 1 of a solution is known; the start index makes it back
-- substitution in closed form. Cited by `Differences`, `Value` and `Examples`.
use mathlib.Core.Path.{◌≡◌, sym, ap, ap₂, ◌∙◌}
use mathlib.Core.List.{[], ◌∷◌}
use Prim.Native.Nat.{ℕ, zero, suc, ◌+◌, ◌*◌, ◌-◌, ◌<◌, ◌≤◌, ◌^◌}
use native.Mathlib.Nat.{mul-le-mul_left, mul-le-mul_right, pow-succ'}
use native.Mathlib.Omega.{arith}
use lib.IntN.{ℤ, pos, nat_abs, ◌+ℤ◌, ◌-ℤ◌, ◌*ℤ◌, *ℤ-zero}
use Rattle.integers.proofs.Absolute.{abs-add, abs-mul}
use Rattle.integers.proofs.Normal.{solve, polys}
use Rattle.integers.specs.Sum.{◌^ℤ◌, sum}
use Rattle.integers.proofs.Power.{pow_pos, pow-add}
use Rattle.integers.proofs.Sum.{sum-suc, sum-zero, sum_ext, sum-scale}
use Rattle.system.specs.System.{past_first}
use Rattle.curve.specs.Curve.{numerator_value, denominator_value}

module _ (x u : ℤ) where
  -- the k terms from i on: c_i u^(k-1) + c_(i+1) x u^(k-2) + .. + c_(i+k-1) x^(k-1)
  abbrev pub horner : (ℕ → ℤ) → ℕ → ℕ → ℤ
  horner c zero i = pos 0
  horner c (suc k) i = c i *ℤ u ^ℤ k +ℤ x *ℤ horner c k (suc i)

  -- the last coefficient apart; t is its index, i + k
  pub horner_last : (c : ℕ → ℤ) (k i t : ℕ) → i + k ≡ t → horner c (suc k) i ≡ u *ℤ horner c k i +ℤ x ^ℤ k *ℤ c t
  horner_last c zero i t e =
      let f : i ≡ t = omega arith in
      rw f (solve (x ∷ u ∷ c t ∷ []) (search polys depth 14) (search polys depth 14) tt)
  horner_last c (suc k) i t e =
      rw (horner_last c k (suc i) t (omega arith))
      (solve (x ∷ u ∷ c i ∷ c t ∷ (u ^ℤ k) ∷ (x ^ℤ k) ∷ horner c k (suc i) ∷ []) (search polys depth 14) (search polys depth 14) tt)

  -- a combination of two lists of coefficients
  pub horner_lin : (c d e : ℕ → ℤ) (a b : ℤ) (k i : ℕ) → ((t : ℕ) → t < i + k → e t ≡ a *ℤ c t -ℤ b *ℤ d t) → horner e k i ≡ a *ℤ horner c k i -ℤ b *ℤ horner d k i
  horner_lin c d e a b zero i h = solve (a ∷ b ∷ []) (search polys depth 9) (search polys depth 9) tt
  horner_lin c d e a b (suc k) i h =
      rw (h i (omega arith), horner_lin c d e a b k (suc i) (λ t l. h t (omega arith)))
      (solve (x ∷ a ∷ b ∷ c i ∷ d i ∷ (u ^ℤ k) ∷ horner c k (suc i) ∷ horner d k (suc i) ∷ []) (search polys depth 14) (search polys depth 14) tt)

  -- as a sum
  pub horner_sum : (c : ℕ → ℤ) (n : ℕ) → sum n (λ i. c i *ℤ x ^ℤ i *ℤ u ^ℤ (n - suc i)) ≡ horner c n 0
  horner_sum c zero = sum-zero (λ i. c i *ℤ x ^ℤ i *ℤ u ^ℤ (0 - suc i))
  horner_sum c (suc n) =
      sum-suc n (term (suc n))
      ∙ ap₂ (λ (a b : ℤ). a +ℤ b) (sum_ext n (term (suc n)) (λ i. u *ℤ term n i) grown ∙ sum-scale n u (term n) ∙ ap (λ (z : ℤ). u *ℤ z) (horner_sum c n)) last
      ∙ sym (horner_last c n 0 n (omega arith))
    where
      term : ℕ → ℕ → ℤ
      term m i = c i *ℤ x ^ℤ i *ℤ u ^ℤ (m - suc i)

      grown : (i : ℕ) → i < n → term (suc n) i ≡ u *ℤ term n i
      grown i l =
          let e : suc n - suc i ≡ suc (n - suc i) = omega arith in
          rw e (solve (u ∷ c i ∷ (x ^ℤ i) ∷ (u ^ℤ (n - suc i)) ∷ []) (search polys depth 9) (search polys depth 9) tt)

      last : term (suc n) n ≡ x ^ℤ n *ℤ c n
      last =
          let e : suc n - suc n ≡ 0 = omega arith in
          rw e (solve (c n ∷ (x ^ℤ n) ∷ []) (search polys depth 9) (search polys depth 9) tt)

  -- the sum of (u N_i - x N_(i+1)) x^i u^(n-1-i) telescopes
  pub telescope : (N : ℕ → ℤ) (n : ℕ) → horner (λ i. u *ℤ N i -ℤ x *ℤ N (suc i)) n 0 ≡ u ^ℤ n *ℤ N 0 -ℤ x ^ℤ n *ℤ N n
  telescope N zero = solve (N 0 ∷ []) (search polys depth 9) (search polys depth 9) tt
  telescope N (suc n) =
      horner_last (λ i. u *ℤ N i -ℤ x *ℤ N (suc i)) n 0 n (omega arith)
      ∙ rw (telescope N n)
      (solve (x ∷ u ∷ N 0 ∷ N n ∷ N (suc n) ∷ (u ^ℤ n) ∷ (x ^ℤ n) ∷ []) (search polys depth 14) (search polys depth 14) tt)

  -- ---- back substitution: the vector H with H_n = 0 and u H_i - x H_(i+1) = c_i u^n

  abbrev pub back : ℕ → (ℕ → ℤ) → ℕ → ℤ
  back n c i = u ^ℤ i *ℤ horner c (n - i) i

  pub back_first : (n : ℕ) (c : ℕ → ℤ) → back n c 0 ≡ horner c n 0
  back_first n c =
      let e : n - 0 ≡ n = omega arith in
      rw e (solve (horner c n 0 ∷ []) (search polys depth 9) (search polys depth 9) tt)

  pub back_end : (n : ℕ) (c : ℕ → ℤ) → back n c n ≡ pos 0
  back_end n c = let e : n - n ≡ 0 = omega arith in rw (e, *ℤ-zero (u ^ℤ n))

  pub back_row : (n : ℕ) (c : ℕ → ℤ) (i : ℕ) → i < n → u *ℤ back n c i -ℤ x *ℤ back n c (suc i) ≡ c i *ℤ u ^ℤ n
  back_row n c i h =
      let e : n - i ≡ suc (n - suc i) = omega arith in
      let f : n ≡ suc i + (n - suc i) = omega arith in
      rw e (identity (u ^ℤ (n - suc i)) (horner c (n - suc i) (suc i)))
      ∙ ap (λ (z : ℤ). c i *ℤ z) (sym (pow-add u (suc i) (n - suc i)) ∙ ap (λ (k : ℕ). u ^ℤ k) (sym f))
    where
      identity : (y w : ℤ) → u *ℤ (u ^ℤ i *ℤ (c i *ℤ y +ℤ x *ℤ w)) -ℤ x *ℤ (u *ℤ u ^ℤ i *ℤ w) ≡ c i *ℤ (u *ℤ u ^ℤ i *ℤ y)
      identity y w = solve (u ∷ x ∷ (u ^ℤ i) ∷ c i ∷ y ∷ w ∷ []) (search polys depth 14) (search polys depth 14) tt

-- ---- how large it is

-- With coefficients and x at most u / 4 it is at most u^k / 2. A single term has no x, so at n = 1 nothing
-- is asked of x.
module _ (u : ℕ) (x : ℤ) (c : ℕ → ℤ) (n : ℕ) (small_x : 1 < n → 4 * nat_abs x ≤ u) (small : (i : ℕ) → i < n → 4 * nat_abs (c i) ≤ u) where
  -- one term more: |c_i| y + |x| w with y = u^k, w the terms after it
  grows : (a x w y s : ℕ) → 4 * a ≤ u → 4 * (x * w) ≤ u * w → 2 * w ≤ y → s ≤ a * y + x * w → 2 * s ≤ u * y
  grows a x w y s ha hx hw h = omega (arith, mul-le-mul_right y ha, mul-le-mul_left u hw)

  triangle : (a y z w : ℤ) (Y : ℕ) → y ≡ pos Y → nat_abs (a *ℤ y +ℤ z *ℤ w) ≤ nat_abs a * Y + nat_abs z * nat_abs w
  triangle a y z w Y e = rw e (omega (arith, abs-add (a *ℤ pos Y) (z *ℤ w), abs-mul a (pos Y), abs-mul z w))

  later_terms : (k i : ℕ) → i + suc k ≤ n → 4 * (nat_abs x * nat_abs (horner x (pos u) c k (suc i))) ≤ u * nat_abs (horner x (pos u) c k (suc i))
  later_terms zero i h = omega arith
  later_terms (suc k) i h = omega (arith, mul-le-mul_right (nat_abs (horner x (pos u) c (suc k) (suc i))) (small_x (omega arith)))

  pub horner_small : (k i : ℕ) → i + k ≤ n → 2 * nat_abs (horner x (pos u) c k i) ≤ u ^ k
  horner_small zero i h = omega arith
  horner_small (suc k) i h =
      rw (pow-succ' u k)
      (grows (nat_abs (c i)) (nat_abs x) (nat_abs (horner x (pos u) c k (suc i))) (u ^ k) (nat_abs (horner x (pos u) c (suc k) i))
      (small i (omega arith)) (later_terms k i h) (horner_small k (suc i) (omega arith))
      (triangle (c i) (pos u ^ℤ k) x (horner x (pos u) c k (suc i)) (u ^ k) (pow_pos u k)))

-- ---- the two values of a curve by Horner's rule

pub numerator_horner : (u : ℕ) (x : ℤ) (p : ℕ → ℤ) (n : ℕ) → numerator_value u x p n ≡ horner x (pos u) p n 0
unfolding numerator_value
numerator_horner u x p n = horner_sum x (pos u) p n

pub denominator_horner : (u : ℕ) (x : ℤ) (q : ℕ → ℤ) (n : ℕ) → denominator_value u x q n ≡ pos u ^ℤ n +ℤ horner x (pos u) (past_first q) n 0
unfolding denominator_value
denominator_horner u x q n = ap (λ (z : ℤ). pos u ^ℤ n +ℤ z) (horner_sum x (pos u) (past_first q) n)
