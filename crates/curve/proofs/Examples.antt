-- The definitions of `Curve` at orders 1, 2 and 3, and a theorem of `Value` at document 01's case G, for a
-- reader to hold against the curve's formula. Cases A and B, from the bytes of their frames on, stand in
-- accuracy's examples. Nothing is built on this module.
use mathlib.Core.Path.{◌≡◌, refl, ◌∙◌}
use mathlib.Core.List.{List, [], ◌∷◌}
use Prim.Native.Nat.{ℕ, zero, suc, ◌<◌}
use native.Mathlib.Omega.{arith}
use lib.IntN.{ℤ, pos, neg_ℤ, ◌+ℤ◌, ◌*ℤ◌}
use lib.Signed.{◌<ℤ◌}
use Rattle.integers.proofs.Normal.{solve, polys}
use Rattle.integers.specs.Sum.{◌^ℤ◌, weight, total}
use Rattle.system.specs.System.{argument, numerator, no_denominator, past_first, curve_entry}
use Rattle.curve.specs.Curve.{numerator_value, denominator_value, CurveValue, ShortRows}
use Rattle.curve.proofs.Horner.{horner, numerator_horner, denominator_horner}
use Rattle.curve.proofs.Value.{polynomial-value}

-- ---- the two values at orders 1, 2 and 3

module _ (u : ℕ) (x : ℤ) (p q : ℕ → ℤ) where
  pub numerator_1 : numerator_value u x p 1 ≡ p 0
  numerator_1 = numerator_horner u x p 1 ∙ spelt (pos u)
    where
      spelt : (u : ℤ) → horner x u p 1 0 ≡ p 0
      spelt u = solve (x ∷ p 0 ∷ []) (search polys depth 9) (search polys depth 9) tt

  pub numerator_2 : numerator_value u x p 2 ≡ p 0 *ℤ pos u +ℤ p 1 *ℤ x
  numerator_2 = numerator_horner u x p 2 ∙ spelt (pos u)
    where
      spelt : (u : ℤ) → horner x u p 2 0 ≡ p 0 *ℤ u +ℤ p 1 *ℤ x
      spelt u = solve (u ∷ x ∷ p 0 ∷ p 1 ∷ []) (search polys depth 12) (search polys depth 12) tt

  pub numerator_3 : numerator_value u x p 3 ≡ p 0 *ℤ pos u *ℤ pos u +ℤ p 1 *ℤ x *ℤ pos u +ℤ p 2 *ℤ x *ℤ x
  numerator_3 = numerator_horner u x p 3 ∙ spelt (pos u)
    where
      spelt : (u : ℤ) → horner x u p 3 0 ≡ p 0 *ℤ u *ℤ u +ℤ p 1 *ℤ x *ℤ u +ℤ p 2 *ℤ x *ℤ x
      spelt u = solve (u ∷ x ∷ p 0 ∷ p 1 ∷ p 2 ∷ []) (search polys depth 14) (search polys depth 14) tt

  pub denominator_1 : denominator_value u x q 1 ≡ pos u
  denominator_1 = denominator_horner u x q 1 ∙ spelt (pos u)
    where
      spelt : (u : ℤ) → u ^ℤ 1 +ℤ horner x u (past_first q) 1 0 ≡ u
      spelt u = solve (u ∷ x ∷ []) (search polys depth 9) (search polys depth 9) tt

  pub denominator_2 : denominator_value u x q 2 ≡ pos u *ℤ pos u +ℤ q 1 *ℤ x
  denominator_2 = denominator_horner u x q 2 ∙ spelt (pos u)
    where
      spelt : (u : ℤ) → u ^ℤ 2 +ℤ horner x u (past_first q) 2 0 ≡ u *ℤ u +ℤ q 1 *ℤ x
      spelt u = solve (u ∷ x ∷ q 1 ∷ []) (search polys depth 12) (search polys depth 12) tt

  pub denominator_3 : denominator_value u x q 3 ≡ pos u *ℤ pos u *ℤ pos u +ℤ q 1 *ℤ x *ℤ pos u +ℤ q 2 *ℤ x *ℤ x
  denominator_3 = denominator_horner u x q 3 ∙ spelt (pos u)
    where
      spelt : (u : ℤ) → u ^ℤ 3 +ℤ horner x u (past_first q) 3 0 ≡ u *ℤ u *ℤ u +ℤ q 1 *ℤ x *ℤ u +ℤ q 2 *ℤ x *ℤ x
      spelt u = solve (u ∷ x ∷ q 1 ∷ q 2 ∷ []) (search polys depth 14) (search polys depth 14) tt

-- ---- the matrix at orders 1, 2 and 3

-- the first n entries of a row
abbrev pub entries : ℕ → (ℕ → ℤ) → List ℤ
entries zero g = []
entries (suc n) g = g 0 ∷ entries n (λ j. g (suc j))

-- the first n rows
abbrev pub table : ℕ → (ℕ → List ℤ) → List (List ℤ)
table zero g = []
table (suc n) g = g 0 ∷ table n (λ i. g (suc i))

-- the matrix of a curve, row by row
abbrev rows_of : ℕ → ℤ → (ℕ → ℤ) → List (List ℤ)
rows_of n x q = table n (λ i. entries n (curve_entry x q i))

module _ (x : ℤ) (q : ℕ → ℤ) where
  pub matrix_1 : rows_of 1 x q ≡ (pos 0 ∷ []) ∷ []
  unfolding curve_entry
  matrix_1 = refl

  pub matrix_2 : rows_of 2 x q ≡ (pos 0 ∷ x ∷ []) ∷ (neg_ℤ (q 1) ∷ pos 0 ∷ []) ∷ []
  unfolding curve_entry
  matrix_2 = refl

  pub matrix_3 : rows_of 3 x q ≡ (pos 0 ∷ x ∷ pos 0 ∷ []) ∷ (neg_ℤ (q 1) ∷ pos 0 ∷ x ∷ []) ∷ (neg_ℤ (q 2) ∷ pos 0 ∷ pos 0 ∷ []) ∷ []
  unfolding curve_entry
  matrix_3 = refl

-- ---- document 01's case G, from the numbers as they are sent; the unit is 16

-- G: a polynomial of order 1, x 31, p_0 8. Its value is 8/16: x is too heavy for any row, but at order 1 no
-- row has it.
abbrev numbers_G : List ℤ
numbers_G = pos 31 ∷ pos 8 ∷ []

short_G : ShortRows 1 16 (curve_entry (argument numbers_G) no_denominator)
unfolding weight total curve_entry
short_G zero h = omega arith
short_G (suc i) h = absurd (omega arith)

pub value_G : CurveValue 1 16 (curve_entry (argument numbers_G) no_denominator) (numerator numbers_G) (pos 8) (pos 16)
value_G =
    rw (numerator_1 16 (argument numbers_G) (numerator numbers_G) no_denominator)
    at (polynomial-value 16 (argument numbers_G) (numerator numbers_G) 1 (omega arith) (omega arith) short_G)

-- every part of what is said of G is used: 16 is above 0, and there is a solution with D above 0, in which
-- 16 N is 8 D
used_G : (pos 0 <ℤ pos 16) × (0 < value_G.solution_under) × (pos 16 *ℤ value_G.solution 0 ≡ pos 8 *ℤ pos value_G.solution_under)
used_G = (value_G.denominator_positive, value_G.under_positive, value_G.value value_G.solution value_G.solution_under value_G.solved)
