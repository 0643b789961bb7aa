-- `Performed` at work on case A with an x of 3 and on document 01's case D: from the promise alone, the very
-- numbers that `perform` answers and leaves in the list.
use mathlib.Core.Path.{◌≡◌, refl, sym, ap, ◌∙◌}
use mathlib.Core.List.{List, [], ◌∷◌, ◌++◌}
use Prim.Native.Nat.{ℕ, ◌+◌, ◌<◌, ◌≤◌}
use native.Mathlib.Omega.{arith}
use lib.IntN.{ℤ, pos}
use lib.ListN.{length}
use Rattle.integers.specs.Flat.{at, list_from, stores}
use Rattle.integers.specs.Sum.{dot, weight, sum, total}
use Rattle.bitfields.specs.Layout.{field, number, bits, values_from}
use Rattle.bitfields.specs.Twos.{decode}
use Rattle.system.specs.Rows.{first_row_from}
use Rattle.system.specs.System.{curve_entry, matrix, right_side}
use Rattle.frame.specs.Frame.{frame_checks}
use Rattle.additions.specs.Additions.{step_additions, additions}
use Rattle.stepping.specs.Steps.{stepped_digits, stepped_residuals, steps, one_step}
use Rattle.recurrence.specs.Recurrence.{digit, residual, shifted, next_digit, next_residual, reading, select, rounded, estimate, cut_down, digit_size}
use Rattle.state.specs.State.{beyond, fresh, breaks_limit}
use Rattle.evaluator.specs.Evaluator.{loaded, advanced, advance_checks, steps_made, readings_checks, readings_list}
use Rattle.scale.specs.Scale.{every}
use Rattle.accuracy.specs.Accuracy as calls
use Rattle.accuracy.specs.Accuracy.{Call, advance, readings, budgets}
use Rattle.calls.specs.Perform.{room_of, calls_of, room_of_all, parts_after, Untouched, Performed}
use Rattle.calls.specs.Promise.{Evaluated}
use Rattle.evaluator.proofs.ExamplePastOrder.{frame_A}
use Rattle.accuracy.proofs.ExampleA.{accepted_A, frame_D}

-- ---- A: advances by 2, 0 and 9, and readings of no word, of three and of two; by 0 and of no word are
-- refused

words_A : List ℕ
words_A = 0 ∷ 2 ∷ 1 ∷ 0 ∷ 1 ∷ 3 ∷ 0 ∷ 0 ∷ 0 ∷ 9 ∷ 7 ∷ 2 ∷ []

-- six words are lent, one more than the parts have
given_A : List ℤ
given_A = pos 70 ∷ pos 71 ∷ pos 72 ∷ pos 73 ∷ pos 74 ∷ pos 75 ∷ []

-- the calls before the last readings
before_A : List Call
before_A = advance 2 ∷ readings [] ∷ readings (pos 70 ∷ pos 71 ∷ pos 72 ∷ []) ∷ advance 0 ∷ advance 9 ∷ []

named_A : calls_of words_A given_A ≡ before_A ++ (readings (pos 73 ∷ pos 74 ∷ []) ∷ [])
unfolding words_A given_A before_A calls_of
named_A = refl

-- no reading goes to the third word, which is the last of a part of three
third_A : Untouched 2 (calls_of words_A given_A) 2
unfolding before_A room_of_all
third_A before rest part e = by_split before rest part (sym named_A ∙ e)
  where
    by_split : (before rest : List Call) (part : List ℤ) → before_A ++ (readings (pos 73 ∷ pos 74 ∷ []) ∷ []) ≡ before ++ (readings part ∷ rest) → 2 ≤ length part → room_of_all before ≤ 2 → 2 < room_of_all before + 2 → ⊥
    by_split [] rest part e m a b = let z : ◌≡◌ {A = ℕ} 0 1 = cc in omega arith
    by_split (c ∷ []) rest part e m a b = let z : ◌≡◌ {A = List ℤ} [] part = cc in omega (arith, ap length z)
    by_split (c ∷ d ∷ []) rest part e m a b =
        let x : advance 2 ≡ c = cc in
        let y : readings [] ≡ d = cc in
        omega (arith, ap room_of x, ap room_of y)
    by_split (c ∷ d ∷ f ∷ before) rest part e m a b = let z : readings (pos 70 ∷ pos 71 ∷ pos 72 ∷ []) ≡ f = cc in omega (arith, ap room_of z)

module _ (r : Evaluated) (final : List ℤ) (p : Performed frame_A words_A given_A r final) where
  -- after two steps the rows read 1 and 2, after five 9 and 16; the third word of the part of three is as it
  -- was, and so is the word past the parts
  list_A : final ≡ pos 1 ∷ pos 2 ∷ pos 72 ∷ pos 9 ∷ pos 16 ∷ pos 75 ∷ []
  unfolding words_A given_A calls_of parts_after room_of_all readings_list readings_checks frame_A calls.run loaded advanced advance_checks steps_made steps one_step fresh breaks_limit beyond frame_checks field number bits values_from decode curve_entry matrix right_side first_row_from every weight total dot sum list_from stores stepped_digits stepped_residuals shifted next_digit next_residual select rounded estimate cut_down digit_size reading
  list_A = (p.accepted (omega (arith, accepted_A))).1

  -- by demand 3 the scale is 0, five steps are made, and one addition is counted
  answer_A : r ≡ record { refusal = 0; row = 0; scale = 0; made = 5; additions = 1 }
  unfolding words_A given_A calls_of budgets frame_A additions step_additions total field number bits values_from decode curve_entry matrix right_side every dot sum digit residual shifted next_digit next_residual select rounded estimate cut_down digit_size
  answer_A =
      let a = p.accurate (omega (arith, accepted_A)) in
      (p.accepted (omega (arith, accepted_A))).0 ∙ rw (a.scale_held, a.additions_counted, a.steps_made)

  -- and the fourth word is row 1's reading
  fourth_word_A : at final 3 ≡ pos 9
  unfolding before_A room_of_all budgets frame_A field number bits values_from decode curve_entry matrix right_side dot sum digit residual shifted next_digit next_residual select rounded estimate cut_down digit_size reading every
  fourth_word_A = p.handed_out (omega (arith, accepted_A)) before_A [] (pos 73 ∷ pos 74 ∷ []) named_A (omega arith) 0 (omega arith)

  kept_A : at final 2 ≡ pos 72
  unfolding frame_A given_A field number bits
  kept_A = p.kept (omega (arith, accepted_A)) 2 third_A

-- ---- D: refused by 8, with row 1

refused_D : (r : Evaluated) (final : List ℤ) → Performed frame_D words_A given_A r final → (r ≡ record { refusal = 8; row = 1; scale = 0; made = 0; additions = 0 }) × (final ≡ given_A)
unfolding frame_D frame_checks field number bits values_from decode curve_entry matrix right_side first_row_from every weight total
refused_D r final p = p.refused (omega arith)

-- ---- a room past the end is cut to what is left, and an odd word at the end is no call

cut : calls_of (5 ∷ 100 ∷ 0 ∷ []) (pos 70 ∷ pos 71 ∷ []) ≡ readings (pos 70 ∷ pos 71 ∷ []) ∷ []
unfolding calls_of
cut = refl
