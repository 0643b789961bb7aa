-- The running sums at work on case A with the x of 3 that document 02 gives it: what the definitions give
-- after one step and after two, and a number out of each statement.
use mathlib.Core.Path.{◌≡◌, refl, sym, ap, ◌∙◌}
use mathlib.Core.Bool.{true}
use mathlib.Core.List.{List, [], ◌∷◌}
use Prim.Native.Nat.{◌≤◌}
use native.Mathlib.Omega.{arith}
use lib.IntN.{ℤ, pos}
use lib.ListN.{take, drop, replicate}
use Rattle.integers.specs.Flat.{at, list_from, stores}
use Rattle.integers.specs.Sum.{dot, weight, sum, total}
use Rattle.job.specs.declared.Header.{Header}
use Rattle.job.specs.Refusal.{here, later, none, also}
use Rattle.system.specs.Rows.{first_row_from}
use Rattle.system.specs.System.{curve_entry, matrix, right_side}
use Rattle.scale.specs.Scale.{every}
use Rattle.recurrence.specs.Recurrence.{shifted, next_digit, next_residual, select, rounded, estimate, cut_down, digit_size}
use Rattle.state.specs.State.{beyond, fresh, breaks_limit, digits_of}
use Rattle.state.specs.declared.State.{State}
use Rattle.state.proofs.PastOrder.{overwritten, overwritten_below}
use Rattle.stepping.specs.Steps.{stepped_digits, stepped_residuals, steps, one_step}
use Rattle.running_sums.specs.RunningSums.{SumsWritten, words_below, columns_below, state_words, word_count, sums_checks, sums_refusal, sums_written, sums_list}
use Rattle.running_sums.specs.Theorems.{SumsDecided, RefusedSums, NothingAtFirst, SumsBelow, SumsFront, SumsPast, ColumnStands, NextStepAdds}

-- ---- polynomial, radix 2, f 4, n 2, m 4; x 3, p_0 3 and p_1 8: G has the entry 3 in row 1, column 2, and no
-- other

abbrev header : Header
header = record { kind = 0; code = 0; p = 1; f = 4; n = 2; m = 4 }

unfoldable job : State
job = fresh header (pos 3 ∷ pos 3 ∷ pos 8 ∷ [])

-- with one step made: its digits are 0 and 1
unfoldable first : State
first =
    record {
      busy = true;
      header = header;
      scale = 0;
      k = 1;
      g = pos 0 ∷ pos 3 ∷ replicate 254 (pos 0);
      z = pos 6 ∷ pos 0 ∷ replicate 14 (pos 0);
      digits = pos 0 ∷ pos 1 ∷ replicate 958 (pos 0);
    }

first_is : steps job 1 ≡ first
unfolding job first steps one_step fresh curve_entry matrix right_side every weight total dot sum list_from stores stepped_digits stepped_residuals shifted next_digit next_residual select rounded estimate cut_down digit_size
first_is = refl

-- four words lent, and two
abbrev four : List ℤ
four = pos 9 ∷ pos 9 ∷ pos 9 ∷ pos 9 ∷ []

abbrev two : List ℤ
two = pos 9 ∷ pos 9 ∷ []

-- ---- what the definitions give

-- after one step column 1 is skipped, and column 2 has the sums 3 and 0
first_sums : (sums_list first four ≡ pos 2 ∷ pos 3 ∷ pos 0 ∷ pos 9 ∷ []) × ((sums_written first 4).count ≡ 3) × (state_words first ≡ pos 2 ∷ pos 3 ∷ pos 0 ∷ [])
unfolding first breaks_limit beyond first_row_from weight total dot sum list_from words_below columns_below sums_checks sums_written sums_list
first_sums = (refl, refl, refl)

-- it is accepted with four words, and refused by 23 with two
first_refusals : (sums_refusal first 4 ≡ 0) × (sums_refusal first 2 ≡ 23)
unfolding first breaks_limit beyond first_row_from weight total columns_below sums_checks
first_refusals = (refl, refl)

-- the digits of step 2 are 1 and 0: column 1 has the sums 0 and 0
second_sums : sums_list (one_step first) four ≡ pos 1 ∷ pos 0 ∷ pos 0 ∷ pos 9 ∷ []
unfolding first one_step stores stepped_digits stepped_residuals shifted next_digit next_residual select rounded estimate cut_down digit_size breaks_limit beyond first_row_from weight total dot sum list_from words_below columns_below sums_checks sums_list
second_sums = refl

-- of two columns the second has the sum over both: the row 2, 3 with the digits 1 and 1
running : words_below 1 (pos 2 ∷ pos 3 ∷ []) (λ j. pos 1) 2 ≡ pos 1 ∷ pos 2 ∷ pos 2 ∷ pos 5 ∷ []
unfolding words_below list_from dot sum
running = refl

-- ---- and what the statements give

decides : SumsDecided → ((sums_written first 2).refusal ≡ 23) × ((sums_written first 4).refusal ≡ 0)
unfolding first breaks_limit beyond first_row_from weight total columns_below sums_checks
decides d = (((d first 2).refused 23 (omega arith)).1 (later tt (later tt (here tt))), (d first 4).accepted.1 (also tt (also tt (also tt none))))

-- two words stay, and none is counted
refuses : RefusedSums → (sums_list first two ≡ two) × ((sums_written first 2).count ≡ 0)
refuses r = r first two (omega (arith, first_refusals.1))

starts : NothingAtFirst → (state_words job ≡ []) × (word_count job ≡ 0)
unfolding job fresh
starts n = n job refl

order : first.header.n ≤ 2
unfolding first
order = omega arith

-- 7 stored past the order, in row 3 of everything
past_order : SumsBelow → ((sums_written (overwritten first 2 0 0 (pos 7)) 4).count ≡ 3) × (sums_list (overwritten first 2 0 0 (pos 7)) four ≡ pos 2 ∷ pos 3 ∷ pos 0 ∷ pos 9 ∷ [])
past_order b =
    let h = b first (overwritten first 2 0 0 (pos 7)) four (overwritten_below first 2 0 0 (pos 7) order (omega arith) (omega arith)) in
    (sym (ap (λ (w : SumsWritten). w.count) h.answer) ∙ first_sums.1, sym h.list ∙ first_sums.0)

fronts : SumsFront → take 3 (sums_list first four) ≡ pos 2 ∷ pos 3 ∷ pos 0 ∷ []
fronts f = (rw first_sums.1 at (f first four first_refusals.0)) ∙ first_sums.2

pasts : SumsPast → drop 3 (sums_list first four) ≡ pos 9 ∷ []
pasts p = rw first_sums.1 at (p first four)

stands : ColumnStands → (at (state_words first) 0 ≡ pos 2) × (at (state_words first) 1 ≡ pos 3)
unfolding first columns_below dot sum
stands s = let h = s first 1 (omega arith) refl in (h.0, h.1 0 (omega arith))

-- row 1 of step 2: w is 2 × (6 + 3), of which the digit 1 leaves 2
adds : NextStepAdds → (digits_of (one_step first).digits 2 0 ≡ pos 1) × (at (one_step first).z 0 ≡ pos 2)
unfolding first words_below columns_below list_from dot sum select rounded estimate cut_down digit_size
adds n = n first (omega arith) (omega arith) refl refl 0 (omega arith)
