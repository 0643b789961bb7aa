-- Demand 3 at work on case A with an x of 3 and case B with a q_1 of 3: from the statement alone, the exact
-- value of row 1 and how near the last reading lies to it; and of A the numbers of every other part of the
-- statement.
use mathlib.Core.Path.{◌≡◌, refl, ◌∙◌}
use mathlib.Core.List.{List, [], ◌∷◌, map}
use Prim.Native.Nat.{ℕ, ◌*◌, ◌<◌, ◌≤◌}
use native.Mathlib.Omega.{arith}
use lib.IntN.{ℤ, pos, negsuc, nat_abs, ◌+ℤ◌, ◌-ℤ◌, ◌*ℤ◌}
use Rattle.integers.specs.Flat.{at, list_from, stores}
use Rattle.integers.proofs.Normal.{solve, polys}
use Rattle.integers.proofs.Order.{zarith}
use Rattle.integers.proofs.Power.{cancel}
use Rattle.integers.proofs.Ring.{*ℤ-one}
use Rattle.integers.specs.Sum.{dot, weight, sum, total}
use Rattle.bitfields.specs.Layout.{field, number, bits, values_from}
use Rattle.bitfields.specs.Twos.{decode}
use Rattle.system.specs.Rows.{first_row_from}
use Rattle.system.specs.System.{curve_entry, matrix, right_side}
use Rattle.frame.specs.Frame.{frame_checks, frame_refusal}
use Rattle.stepping.specs.Steps.{stepped_digits, stepped_residuals, steps, one_step}
use Rattle.recurrence.specs.Recurrence.{shifted, next_digit, next_residual, reading, select, rounded, estimate, cut_down, digit_size}
use Rattle.curve.specs.Curve.{numerator_value, denominator_value}
use Rattle.state.specs.State.{beyond, fresh, breaks_limit}
use Rattle.evaluator.specs.Evaluator.{loaded, advanced, advance_checks, steps_made, readings_list}
use Rattle.scale.specs.Scale.{every}
use Rattle.accuracy.specs.Accuracy as calls
use Rattle.accuracy.specs.Accuracy.{Call, advance, Accurate, ExactValues, after, held_digit, Y}
use Rattle.accuracy.proofs.Demand3.{accurate}
use Rattle.evaluator.proofs.ExamplePastOrder.{frame_A}
use Rattle.accuracy.proofs.ExampleA.{calls_A, one_step_A, two_steps_A, lent_A, middle_A, end_A, accepted_A}
use Rattle.accuracy.proofs.ExampleDigits.{steps_A, row_A, spelt_A, later_A}
use Rattle.accuracy.proofs.ExampleNear.{near_A, distance_A, count_A, curve_A}
use Rattle.accuracy.proofs.ExampleReadings.{handed_A, nothing_A, one_word_A}
use Rattle.accuracy.proofs.ExampleIdentity.{identity-one, identity_two}

-- ---- A

-- demand 3 holds of every list of calls
holds_A : (calls : List Call) → Accurate frame_A calls
holds_A = accurate frame_A accepted_A

-- the steps made, row 1's digits, a digit past the steps made, how near two digits come and how near
-- all, the words that readings leave, and the identity in row 1
pub numbers-A :
    ((after frame_A calls_A).k ≡ 5)
    × (map (λ j. held_digit frame_A calls_A j 0) (1 ∷ 2 ∷ 3 ∷ 4 ∷ 5 ∷ []) ≡ pos 0 ∷ pos 1 ∷ pos 0 ∷ pos 1 ∷ negsuc 0 ∷ [])
    × (held_digit frame_A two_steps_A 4 0 ≡ pos 0)
    × (nat_abs (pos 9 *ℤ pos 4 -ℤ pos 32 *ℤ Y frame_A calls_A 2 0 *ℤ pos 1) ≤ 32)
    × (nat_abs (pos 9 *ℤ pos 4 -ℤ pos 32 *ℤ pos 1 *ℤ pos 1) ≤ 32)
    × (16 * nat_abs (pos 9 *ℤ pos 32 -ℤ pos 32 *ℤ pos 9 *ℤ pos 1) < 1024)
    × (at (readings_list (after frame_A middle_A) lent_A) 0 ≡ pos 1)
    × (at (readings_list (after frame_A middle_A) lent_A) 1 ≡ pos 2)
    × (readings_list (after frame_A two_steps_A) [] ≡ [])
    × (readings_list (after frame_A end_A) (pos 9 ∷ []) ≡ pos 9 ∷ [])
    × (pos 9 ≡ at (after frame_A one_step_A).z 0 +ℤ pos 3)
    × (pos 2 ≡ at (after frame_A two_steps_A).z 0 +ℤ pos 0)
numbers-A =
    (steps_A holds_A, row_A holds_A, later_A holds_A, near_A holds_A, distance_A holds_A, count_A holds_A, (handed_A holds_A).0, (handed_A holds_A).1, nothing_A holds_A, one_word_A holds_A, identity-one holds_A, identity_two holds_A)

-- row 1's exact value is 9/32, in every solution, and the reading 9 after 5 steps is that value exactly
pub case_A : (N : ℕ → ℤ) (D : ℕ) → ExactValues frame_A N D → pos 32 *ℤ N 0 ≡ pos D *ℤ Y frame_A calls_A 5 0
case_A N D exact = rw (spelt_A holds_A).1 (cancel {d = pos 8} (omega zarith) (first (N 0) (pos D) (curve_A holds_A N D exact)))
  where
    first : (x d : ℤ) → pos 256 *ℤ x ≡ pos 72 *ℤ d → pos 8 *ℤ (pos 32 *ℤ x) ≡ pos 8 *ℤ (d *ℤ pos 9)
    first x d e =
        solve (x ∷ []) (search polys depth 12) (search polys depth 12) tt ∙ e ∙ solve (d ∷ []) (search polys depth 12) (search polys depth 12) tt

-- ---- B with a q_1 of 3, as B's own frame is refused by 8: rational, x 2, p 8 and 0, over 16; m 5, and so
-- six steps

unfoldable pub frame_B : List ℕ
frame_B = 65 ∷ 16 ∷ 69 ∷ 8 ∷ 128 ∷ 3 ∷ []

unfoldable pub calls_B : List Call
calls_B = advance 3 ∷ advance 2 ∷ advance 7 ∷ []

pub accepted_B : frame_refusal frame_B ≡ 0
unfolding frame_B frame_checks field number bits values_from decode curve_entry matrix right_side first_row_from every weight total
accepted_B = refl

steps_B : (after frame_B calls_B).k ≡ 6
unfolding frame_B calls_B calls.budgets field number bits values_from decode right_side every
steps_B = (accurate frame_B accepted_B calls_B).steps_made

reading_B : Y frame_B calls_B 6 0 ≡ pos 31
unfolding frame_B calls_B calls.run loaded advanced advance_checks steps_made steps one_step fresh breaks_limit beyond frame_checks field number bits values_from decode curve_entry matrix right_side first_row_from every weight total dot sum list_from stores stepped_digits stepped_residuals shifted next_digit next_residual select rounded estimate cut_down digit_size reading
reading_B = refl

-- row 1's exact value is 64/131, in every solution; the reading 31 after 6 steps, over 64, is within 1/64 of
-- it, and nearer than the 1/32 that m promises
pub case_B : (N : ℕ → ℤ) (D : ℕ) → 0 < D → ExactValues frame_B N D → (pos 131 *ℤ N 0 ≡ pos 64 *ℤ pos D) × (nat_abs (N 0 *ℤ pos 64 -ℤ pos D *ℤ pos 31) ≤ D) × (32 * nat_abs (N 0 *ℤ pos 64 -ℤ pos D *ℤ pos 31) < D * 64)
unfolding frame_B field number bits values_from decode numerator_value denominator_value sum right_side every
case_B N D h exact = (cancel {d = pos 2} (omega zarith) (first (N 0) (pos D) (value N D exact)), near, count)
  where
    value : (N : ℕ → ℤ) (D : ℕ) → ExactValues frame_B N D → pos 262 *ℤ N 0 ≡ pos 128 *ℤ pos D
    value N D exact = ((accurate frame_B accepted_B calls_B).curve refl).value N D exact

    first : (x d : ℤ) → pos 262 *ℤ x ≡ pos 128 *ℤ d → pos 2 *ℤ (pos 131 *ℤ x) ≡ pos 2 *ℤ (pos 64 *ℤ d)
    first x d e =
        solve (x ∷ []) (search polys depth 12) (search polys depth 12) tt ∙ e ∙ solve (d ∷ []) (search polys depth 12) (search polys depth 12) tt

    count : 32 * nat_abs (N 0 *ℤ pos 64 -ℤ pos D *ℤ pos 31) < D * 64
    count = rw (reading_B, *ℤ-one (pos D *ℤ pos 31)) at ((accurate frame_B accepted_B calls_B).digit_count steps_B N D h exact 0 (omega arith))

    near : nat_abs (N 0 *ℤ pos 64 -ℤ pos D *ℤ pos 31) ≤ D
    near = omega (arith, rw (reading_B, *ℤ-one (pos D *ℤ pos 31)) at ((accurate frame_B accepted_B calls_B).near 6 (omega (arith, steps_B)) N D (omega (arith, steps_B)) exact 0 (omega arith)))
