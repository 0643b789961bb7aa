-- The value of a sum of quotients at orders 1, 2 and 3, its matrix, and document 02's example, for a reader
-- to hold against the formula. The same from the bytes of its frame on stands in accuracy's examples. Nothing
-- is built on this module.
use mathlib.Core.Path.{◌≡◌, refl, ap, ◌∙◌}
use mathlib.Core.List.{List, [], ◌∷◌}
use Prim.Native.Nat.{ℕ, zero, suc, ◌<◌}
use native.Mathlib.Omega.{arith}
use lib.IntN.{ℤ, pos, ◌+ℤ◌, ◌-ℤ◌, ◌*ℤ◌}
use lib.Signed.{◌<ℤ◌}
use Rattle.integers.proofs.Normal.{solve, polys}
use Rattle.integers.proofs.Ring.{one-*ℤ, *ℤ-one}
use Rattle.integers.specs.Sum.{weight, total, sum, product, product_without}
use Rattle.job.specs.Kind.{quotients}
use Rattle.system.specs.System.{past_first, quotients_entry, matrix, right_side}
use Rattle.curve.specs.Curve.{value_over, value_under, CurveValue, ShortRows}
use Rattle.curve.specs.Quotients.{divisor, quotients_over, quotients_under}
use Rattle.curve.proofs.Examples.{table, entries}
use Rattle.curve.proofs.Value.{kind-value}

-- ---- P and Q at orders 1, 2 and 3

-- with any divisors f, of which that of row 0 is a factor of every term
module _ (c a f : ℕ → ℤ) where
  abbrev over : ℕ → ℤ
  over n = a 0 *ℤ product n f +ℤ sum n (λ i. past_first c i *ℤ a i *ℤ product_without n i f)

  spelt_1 : over 1 ≡ f 0 *ℤ a 0
  unfolding product product_without sum
  spelt_1 = solve (f 0 ∷ a 0 ∷ []) (search polys depth 12) (search polys depth 12) tt

  spelt_2 : over 2 ≡ f 0 *ℤ (a 0 *ℤ f 1 +ℤ c 1 *ℤ a 1)
  unfolding product product_without sum
  spelt_2 = solve (f 0 ∷ f 1 ∷ a 0 ∷ a 1 ∷ c 1 ∷ []) (search polys depth 14) (search polys depth 14) tt

  spelt_3 : over 3 ≡ f 0 *ℤ (a 0 *ℤ f 1 *ℤ f 2 +ℤ c 1 *ℤ a 1 *ℤ f 2 +ℤ c 2 *ℤ a 2 *ℤ f 1)
  unfolding product product_without sum
  spelt_3 = solve (f 0 ∷ f 1 ∷ f 2 ∷ a 0 ∷ a 1 ∷ a 2 ∷ c 1 ∷ c 2 ∷ []) (search polys depth 16 fits 5000) (search polys depth 16 fits 5000) tt

module _ (u : ℕ) (c a b : ℕ → ℤ) where
  pub over_1 : quotients_over u c a b 1 ≡ a 0
  unfolding quotients_over divisor
  over_1 = spelt_1 c a (divisor u b) ∙ one-*ℤ (a 0)

  pub over_2 : quotients_over u c a b 2 ≡ a 0 *ℤ (pos u -ℤ b 1) +ℤ c 1 *ℤ a 1
  unfolding quotients_over divisor
  over_2 = spelt_2 c a (divisor u b) ∙ one-*ℤ _

  pub over_3 : quotients_over u c a b 3 ≡ a 0 *ℤ (pos u -ℤ b 1) *ℤ (pos u -ℤ b 2) +ℤ c 1 *ℤ a 1 *ℤ (pos u -ℤ b 2) +ℤ c 2 *ℤ a 2 *ℤ (pos u -ℤ b 1)
  unfolding quotients_over divisor
  over_3 = spelt_3 c a (divisor u b) ∙ one-*ℤ _

module _ (u : ℕ) (b : ℕ → ℤ) where
  pub under_1 : quotients_under u b 1 ≡ pos u
  unfolding quotients_under divisor product
  under_1 = *ℤ-one (pos u)

  pub under_2 : quotients_under u b 2 ≡ pos u *ℤ (pos u -ℤ b 1)
  unfolding quotients_under divisor product
  under_2 = ap (λ (z : ℤ). pos u *ℤ z) (one-*ℤ (pos u -ℤ b 1))

  pub under_3 : quotients_under u b 3 ≡ pos u *ℤ ((pos u -ℤ b 1) *ℤ (pos u -ℤ b 2))
  unfolding quotients_under divisor product
  under_3 = ap (λ (z : ℤ). pos u *ℤ (z *ℤ (pos u -ℤ b 2))) (one-*ℤ (pos u -ℤ b 1))

-- ---- the matrix at order 3

pub quotients-matrix_3 : (c b : ℕ → ℤ)
    → table 3 (λ i. entries 3 (quotients_entry c b i)) ≡ (pos 0 ∷ c 1 ∷ c 2 ∷ []) ∷ (pos 0 ∷ b 1 ∷ pos 0 ∷ []) ∷ (pos 0 ∷ pos 0 ∷ b 2 ∷ []) ∷ []
unfolding quotients_entry
quotients-matrix_3 c b = refl

-- ---- document 02's example, from the numbers as they are sent; the unit is 16

-- c_0 4, c_1 2, a_1 8, b_1 2
abbrev numbers : List ℤ
numbers = pos 4 ∷ pos 2 ∷ pos 8 ∷ pos 2 ∷ []

right_sides : entries 2 (right_side quotients 2 numbers) ≡ pos 4 ∷ pos 8 ∷ []
unfolding right_side
right_sides = refl

-- its value is 72/224, which is 9/28
fraction : (value_over quotients 2 16 numbers ≡ pos 72) × (value_under quotients 2 16 numbers ≡ pos 224)
unfolding quotients_over quotients_under divisor product product_without sum right_side
fraction = (refl, refl)

short : ShortRows 2 16 (matrix quotients 2 16 numbers)
unfolding weight total matrix quotients_entry
short zero h = omega arith
short (suc zero) h = omega arith
short (suc (suc i)) h = absurd (omega arith)

pub value_28 : CurveValue 2 16 (matrix quotients 2 16 numbers) (right_side quotients 2 numbers) (pos 72) (pos 224)
value_28 = rw (fraction.0, fraction.1) at (kind-value quotients 2 16 numbers refl (omega arith) (omega arith) short)

-- every part of what is said of it is used: 224 is above 0, and there is a solution with D above 0, in which
-- 224 N is 72 D
used_28 : (pos 0 <ℤ pos 224) × (0 < value_28.solution_under) × (pos 224 *ℤ value_28.solution 0 ≡ pos 72 *ℤ pos value_28.solution_under)
used_28 = (value_28.denominator_positive, value_28.under_positive, value_28.value value_28.solution value_28.solution_under value_28.solved)
