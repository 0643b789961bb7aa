-- Row 1 of the system of a sum of quotients has its value (document 02, request 7). Each further row has one
-- unknown, so a quotient is known in every solution, and a solution is written down.
use mathlib.Core.Path.{◌≡◌, refl, sym, ap, ◌∙◌}
use mathlib.Core.List.{[], ◌∷◌}
use Prim.Native.Nat.{ℕ, zero, suc, ◌*◌, ◌<◌, ◌≤◌}
use native.Mathlib.Omega.{arith}
use lib.IntN.{ℤ, pos, neg_ℤ, nat_abs, ◌+ℤ◌, ◌-ℤ◌, ◌*ℤ◌, zero-*ℤ}
use lib.Signed.{◌<ℤ◌}
use Rattle.integers.specs.Sum.{sum, dot, product, product_without}
use Rattle.integers.proofs.Absolute.{abs_parts, abs_neg, abs_positive, positive_abs}
use Rattle.integers.proofs.Factors.{product_split, product_positive}
use Rattle.integers.proofs.Normal.{solve, polys}
use Rattle.integers.proofs.Order.{zarith, mul_positive}
use Rattle.integers.proofs.Parts.{parts_add}
use Rattle.integers.proofs.Product.{entry_le_weight}
use Rattle.integers.proofs.Sum.{sum_ext, sum_one, sum-scale}
use Rattle.system.specs.System.{past_first, quotients_entry}
use Rattle.system.proofs.Quotients.{diagonal, off_diagonal}
use Rattle.recurrence.specs.Recurrence.{Solves}
use Rattle.curve.specs.Curve.{ShortRows, QuotientsValue}
use Rattle.curve.specs.Quotients.{divisor, quotients_over, quotients_under}

-- ---- the rows, with a vector

module _ (c b : ℕ → ℤ) where
  first_product : (n : ℕ) (N : ℕ → ℤ) → dot n (quotients_entry c b 0) N ≡ sum n (λ j. past_first c j *ℤ N j)
  unfolding dot quotients_entry
  first_product n N = refl

  row-product : (n i : ℕ) (N : ℕ → ℤ) → suc i < n → dot n (quotients_entry c b (suc i)) N ≡ b (suc i) *ℤ N (suc i)
  unfolding dot
  row-product n i N l =
      sum_one n (suc i) (λ j. quotients_entry c b (suc i) j *ℤ N j) l (λ j m h. rw (off_diagonal c b (suc i) j (omega arith) h, zero-*ℤ (N j)))
      ∙ rw (diagonal c b i)

-- ---- the value

module _ (u : ℕ) (c a b : ℕ → ℤ) (n : ℕ) where
  -- all divisors, all but the i-th, and the i-th term of P
  abbrev all : ℤ
  all = product n (divisor u b)

  abbrev but : ℕ → ℤ
  but i = product_without n i (divisor u b)

  abbrev term : ℕ → ℤ
  term i = past_first c i *ℤ a i *ℤ but i

  -- ---- in every solution

  module _ (N : ℕ → ℤ) (D : ℕ) (s : Solves n u D (quotients_entry c b) a N) where
    -- a quotient's row: (u - b_i) N_i = D a_i
    quotient : (i : ℕ) → suc i < n → divisor u b (suc i) *ℤ N (suc i) ≡ pos D *ℤ a (suc i)
    unfolding divisor
    quotient i l = joined (pos u) (b (suc i)) (N (suc i)) ∙ rw (row-product c b n i N l) at (s.solves (suc i) l)
      where
        joined : (x y z : ℤ) → (x -ℤ y) *ℤ z ≡ x *ℤ z -ℤ y *ℤ z
        joined x y z = solve (x ∷ y ∷ z ∷ []) (search polys depth 12) (search polys depth 12) tt

    -- so all divisors times what column i brings to row 0 is D times the i-th term of P
    brought : (i : ℕ) → i < n → all *ℤ (past_first c i *ℤ N i) ≡ pos D *ℤ term i
    brought zero l = none all (N 0) (pos D) (a 0) (but 0)
      where
        none : (r y d x o : ℤ) → r *ℤ (pos 0 *ℤ y) ≡ d *ℤ (pos 0 *ℤ x *ℤ o)
        none r y d x o = solve (r ∷ y ∷ d ∷ x ∷ o ∷ []) (search polys depth 14) (search polys depth 14) tt
    brought (suc i) l =
        rw (product_split n (suc i) (divisor u b) l)
        (across (divisor u b (suc i)) (but (suc i)) (c (suc i)) (N (suc i)) (pos D) (a (suc i)) (quotient i l))
      where
        across : (f o x y d z : ℤ) → f *ℤ y ≡ d *ℤ z → (f *ℤ o) *ℤ (x *ℤ y) ≡ d *ℤ (x *ℤ z *ℤ o)
        across f o x y d z e = apart ∙ rw e (solve (o ∷ x ∷ d ∷ z ∷ []) (search polys depth 12) (search polys depth 12) tt)
          where
            apart : (f *ℤ o) *ℤ (x *ℤ y) ≡ (o *ℤ x) *ℤ (f *ℤ y)
            apart = solve (f ∷ o ∷ x ∷ y ∷ []) (search polys depth 12) (search polys depth 12) tt

    first_value : 0 < n → quotients_under u b n *ℤ N 0 ≡ quotients_over u c a b n *ℤ pos D
    unfolding quotients_over quotients_under
    first_value some =
        collect (pos u) all (N 0) (sum n (λ j. past_first c j *ℤ N j)) (pos D) (a 0) (sum n term)
        (rw (first_product c b n N) at (s.solves 0 some))
        (sym (sum-scale n all (λ j. past_first c j *ℤ N j))
        ∙ sum_ext n (λ j. all *ℤ (past_first c j *ℤ N j)) (λ j. pos D *ℤ term j) brought
        ∙ sum-scale n (pos D) term)
      where
        collect : (u r y t d k p : ℤ) → u *ℤ y -ℤ t ≡ d *ℤ k → r *ℤ t ≡ d *ℤ p → (u *ℤ r) *ℤ y ≡ (k *ℤ r +ℤ p) *ℤ d
        collect u r y t d k p e f = apart ∙ rw (e, f) (solve (r ∷ d ∷ k ∷ p ∷ []) (search polys depth 12) (search polys depth 12) tt)
          where
            apart : (u *ℤ r) *ℤ y ≡ r *ℤ (u *ℤ y -ℤ t) +ℤ r *ℤ t
            apart = solve (u ∷ r ∷ y ∷ t ∷ []) (search polys depth 12) (search polys depth 12) tt

  -- ---- a solution: N_0 = P, N_i = u a_i times all divisors but the i-th, and D = Q

  abbrev found : ℕ → ℤ
  found zero = quotients_over u c a b n
  found (suc i) = pos u *ℤ (a (suc i) *ℤ but (suc i))

  found_term : (i : ℕ) → i < n → past_first c i *ℤ found i ≡ pos u *ℤ term i
  found_term zero l = none (quotients_over u c a b n) (pos u) (a 0) (but 0)
    where
      none : (y d x o : ℤ) → pos 0 *ℤ y ≡ d *ℤ (pos 0 *ℤ x *ℤ o)
      none y d x o = solve (y ∷ d ∷ x ∷ o ∷ []) (search polys depth 14) (search polys depth 14) tt
  found_term (suc i) l = turned (c (suc i)) (pos u) (a (suc i)) (but (suc i))
    where
      turned : (k u x o : ℤ) → k *ℤ (u *ℤ (x *ℤ o)) ≡ u *ℤ (k *ℤ x *ℤ o)
      turned k u x o = solve (k ∷ u ∷ x ∷ o ∷ []) (search polys depth 12) (search polys depth 12) tt

  found_row : (D : ℕ) → pos D ≡ quotients_under u b n → (i : ℕ) → i < n → pos u *ℤ found i -ℤ dot n (quotients_entry c b i) found ≡ pos D *ℤ a i
  unfolding quotients_over quotients_under divisor
  found_row D e zero l =
      rw (
        e,
        first_product c b n found,
        sum_ext n (λ j. past_first c j *ℤ found j) (λ j. pos u *ℤ term j) found_term,
        sum-scale n (pos u) term,
      )
      (first (pos u) (a 0) all (sum n term))
    where
      first : (u k r t : ℤ) → u *ℤ (k *ℤ r +ℤ t) -ℤ u *ℤ t ≡ (u *ℤ r) *ℤ k
      first u k r t = solve (u ∷ k ∷ r ∷ t ∷ []) (search polys depth 12) (search polys depth 12) tt
  found_row D e (suc i) l =
      rw (e, row-product c b n i found l, product_split n (suc i) (divisor u b) l)
      (next (pos u) (b (suc i)) (a (suc i)) (but (suc i)))
    where
      next : (u y x o : ℤ) → u *ℤ (u *ℤ (x *ℤ o)) -ℤ y *ℤ (u *ℤ (x *ℤ o)) ≡ (u *ℤ ((u -ℤ y) *ℤ o)) *ℤ x
      next u y x o = solve (u ∷ y ∷ x ∷ o ∷ []) (search polys depth 14) (search polys depth 14) tt

  -- ---- Q is above 0, since a short row has 4 |b_i| ≤ u

  module _ (unit : 0 < u) (short : ShortRows n u (quotients_entry c b)) where
    divisor_positive : (i : ℕ) → i < n → pos 0 <ℤ divisor u b i
    unfolding divisor
    divisor_positive zero l = omega zarith
    divisor_positive (suc i) l =
        above (b (suc i))
        (omega (arith, short (suc i) l, entry_le_weight n (quotients_entry c b (suc i)) (suc i) l, ap nat_abs (diagonal c b i)))
      where
        above : (y : ℤ) → 4 * nat_abs y ≤ u → pos 0 <ℤ (pos u -ℤ y)
        above y h = omega (zarith, abs_parts (neg_ℤ y), abs_neg y, parts_add (pos u) (neg_ℤ y))

    under_positive : pos 0 <ℤ quotients_under u b n
    unfolding quotients_under
    under_positive = mul_positive {a = pos u} (omega zarith) (product_positive n (divisor u b) divisor_positive)

pub quotients-value : QuotientsValue
quotients-value u c a b n unit some short =
    let positive = under_positive u c a b n unit short in
    record {
      denominator_positive = positive;
      value = λ N D s. first_value u c a b n N D s some;
      solution = found u c a b n;
      solution_under = nat_abs (quotients_under u b n);
      under_positive = abs_positive positive;
      solved = record { solves = found_row u c a b n (nat_abs (quotients_under u b n)) (positive_abs positive) };
    }
