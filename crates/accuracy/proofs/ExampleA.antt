-- Case A with an x of 3 for the examples: lists of calls on its frame, and what the definitions give of it by
-- computation, each thing once. And the frame of document 01's case D, which is refused.
use mathlib.Core.Path.{◌≡◌, refl, ap}
use mathlib.Core.List.{List, [], ◌∷◌, map}
use Prim.Native.Nat.{ℕ, zero, suc, ◌<◌}
use native.Mathlib.Omega.{arith}
use lib.IntN.{ℤ, pos, negsuc, ◌-ℤ◌, ◌*ℤ◌}
use Rattle.integers.specs.Flat.{at, list_from, stores}
use Rattle.integers.specs.Sum.{dot, weight, sum, total}
use Rattle.bitfields.specs.Layout.{field, number, bits, values_from}
use Rattle.bitfields.specs.Twos.{decode}
use Rattle.system.specs.Rows.{first_row_from}
use Rattle.system.specs.System.{curve_entry, matrix, right_side}
use Rattle.frame.specs.Frame.{frame_checks, frame_refusal}
use Rattle.additions.specs.Additions.{step_additions}
use Rattle.stepping.specs.Steps.{stepped_digits, stepped_residuals, steps, one_step, steps_additions}
use Rattle.recurrence.specs.Recurrence.{shifted, next_digit, next_residual, digit, residual, reading, select, rounded, estimate, cut_down, digit_size}
use Rattle.state.specs.State.{beyond, fresh, breaks_limit}
use Rattle.evaluator.specs.Evaluator.{loaded, advanced, advance_checks, steps_made, readings_checks, readings_refusal, readings_list}
use Rattle.scale.specs.Scale.{every}
use Rattle.accuracy.specs.Accuracy as calls
use Rattle.accuracy.specs.Accuracy.{Call, advance, readings, ExactValues, G, b, after, additions_made, true_digit}
use Rattle.evaluator.proofs.ExamplePastOrder.{frame_A}

-- ---- A with the x of 3 that document 02 gives it: polynomial, p 3 and 8, over 16; m 4, and so five steps

-- D: x 5 in A
unfoldable pub frame_D : List ℕ
frame_D = 1 ∷ 16 ∷ 68 ∷ 20 ∷ 50 ∷ 0 ∷ []

-- all steps, a single one, and two
unfoldable pub calls_A : List Call
calls_A = advance 1 ∷ advance 0 ∷ advance 9 ∷ []

unfoldable pub one_step_A : List Call
one_step_A = advance 1 ∷ []

unfoldable pub two_steps_A : List Call
two_steps_A = advance 2 ∷ []

-- three words lent
abbrev pub lent_A : List ℤ
lent_A = pos 7 ∷ pos 7 ∷ pos 7 ∷ []

-- two steps, then readings and an advance that are refused
unfoldable pub middle_A : List Call
middle_A = advance 2 ∷ readings [] ∷ advance 0 ∷ []

-- then readings to the three words, and the other steps
unfoldable pub end_A : List Call
end_A = advance 2 ∷ readings [] ∷ advance 0 ∷ readings lent_A ∷ advance 9 ∷ []

-- then readings to a single word, which are refused
unfoldable pub mixed_A : List Call
mixed_A = advance 2 ∷ readings [] ∷ advance 0 ∷ readings lent_A ∷ advance 9 ∷ readings (pos 9 ∷ []) ∷ []

-- ---- what the definitions give

pub accepted_A : frame_refusal frame_A ≡ 0
unfolding frame_A frame_checks field number bits values_from decode curve_entry matrix right_side first_row_from every weight total
accepted_A = refl

-- the digits of row 1 and of row 2, step by step
pub digits_A : (map (λ j. true_digit frame_A j 0) (1 ∷ 2 ∷ 3 ∷ 4 ∷ 5 ∷ []) ≡ pos 0 ∷ pos 1 ∷ pos 0 ∷ pos 1 ∷ negsuc 0 ∷ [])
    × (map (λ j. true_digit frame_A j 1) (1 ∷ 2 ∷ 3 ∷ 4 ∷ 5 ∷ []) ≡ pos 1 ∷ pos 0 ∷ pos 0 ∷ pos 0 ∷ pos 0 ∷ [])
unfolding frame_A field number bits values_from decode curve_entry matrix right_side dot sum shifted next_digit next_residual digit residual select rounded estimate cut_down digit_size every
digits_A = (refl, refl)

-- the t-th of them, from 0
pub digit_1_A : (t : ℕ) → at (map (λ j. true_digit frame_A j 0) (1 ∷ 2 ∷ 3 ∷ 4 ∷ 5 ∷ [])) t ≡ at (pos 0 ∷ pos 1 ∷ pos 0 ∷ pos 1 ∷ negsuc 0 ∷ []) t
digit_1_A t = ap (λ (row : List ℤ). at row t) digits_A.0

pub digit_2_A : (t : ℕ) → at (map (λ j. true_digit frame_A j 1) (1 ∷ 2 ∷ 3 ∷ 4 ∷ 5 ∷ [])) t ≡ at (pos 1 ∷ pos 0 ∷ pos 0 ∷ pos 0 ∷ pos 0 ∷ []) t
digit_2_A t = ap (λ (row : List ℤ). at row t) digits_A.1

-- 9/32 and 16/32 solve both rows
unfoldable pub values_A : ℕ → ℤ
values_A = at (pos 9 ∷ pos 16 ∷ [])

pub exact_A : ExactValues frame_A values_A 32
unfolding frame_A values_A field number bits values_from decode curve_entry matrix right_side dot sum every
exact_A = record { solves = solves-row }
  where
    solves-row : (i : ℕ) → i < 2 → pos 16 *ℤ values_A i -ℤ dot 2 (G frame_A i) values_A ≡ pos 32 *ℤ b frame_A i
    solves-row zero l = refl
    solves-row (suc zero) l = refl
    solves-row (suc (suc i)) l = absurd (omega arith)

-- the calls themselves: readings to no word and to one word are refused by 23, those to three words are not;
-- at the end five steps are made, readings leave 9, 16 and the third word, the scale is 0, one addition is
-- counted, and readings to one word are refused by 23 and leave it
pub readings_A : (x y w : ℤ) →
    (readings_refusal (after frame_A two_steps_A) 0 ≡ 23)
    × (readings_refusal (after frame_A middle_A) 3 ≡ 0)
    × (readings_refusal (after frame_A end_A) 1 ≡ 23)
    × (readings_refusal (after frame_A calls_A) 3 ≡ 0)
    × ((after frame_A calls_A).k ≡ 5)
    × (readings_list (after frame_A calls_A) (x ∷ y ∷ w ∷ []) ≡ pos 9 ∷ pos 16 ∷ w ∷ [])
    × ((after frame_A calls_A).scale ≡ 0)
    × (additions_made frame_A calls_A ≡ 1)
    × (readings_refusal (after frame_A calls_A) 1 ≡ 23)
    × (readings_list (after frame_A calls_A) (x ∷ []) ≡ x ∷ [])
unfolding frame_A calls_A two_steps_A middle_A end_A calls.run calls.calls_additions loaded advanced advance_checks steps_made steps one_step steps_additions step_additions readings_checks readings_list fresh breaks_limit beyond frame_checks field number bits values_from decode curve_entry matrix right_side first_row_from every weight total dot sum list_from stores stepped_digits stepped_residuals shifted next_digit next_residual select rounded estimate cut_down digit_size reading
readings_A x y w = (refl, refl, refl, refl, refl, refl, refl, refl, refl, refl)
