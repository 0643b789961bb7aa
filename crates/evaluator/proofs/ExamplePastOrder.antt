-- What is said of entries past the order, at work on case A with an x of 3: 7 is stored past the order in G,
-- in z and in the digits, and from the statements alone every call answers as before, and the 7 comes back.
use mathlib.Core.Path.{◌≡◌, refl, sym, ◌∙◌}
use mathlib.Core.List.{List, [], ◌∷◌}
use mathlib.Core.Logic.{inl}
use Prim.Native.Nat.{ℕ}
use native.Mathlib.Omega.{arith}
use lib.IntN.{pos, negsuc}
use Rattle.integers.specs.Flat.{at, entry, list_from, stores}
use Rattle.integers.specs.Sum.{dot, weight, sum, total}
use Rattle.bitfields.specs.Layout.{field, number, bits, values_from}
use Rattle.bitfields.specs.Twos.{decode}
use Rattle.system.specs.Rows.{first_row_from}
use Rattle.system.specs.System.{curve_entry, matrix, right_side}
use Rattle.scale.specs.Scale.{every}
use Rattle.frame.specs.Frame.{frame_checks}
use Rattle.additions.specs.Additions.{step_additions}
use Rattle.stepping.specs.Steps.{stepped_digits, stepped_residuals, steps, one_step, steps_additions}
use Rattle.recurrence.specs.Recurrence.{shifted, next_digit, next_residual, reading, select, rounded, estimate, cut_down, digit_size}
use Rattle.state.specs.State.{beyond, fresh, breaks_limit, SameBelow}
use Rattle.state.specs.declared.State.{State}
use Rattle.state.proofs.PastOrder.{overwritten, overwritten_below}
use Rattle.evaluator.specs.Evaluator.{loaded, advanced, advance_checks, steps_made, readings_checks, readings_list, readings_refusal}
use Rattle.evaluator.specs.PastOrder.{SameLengths, LoadZeros, AdvanceBelow, AdvanceKeeps, ReadingsBelow}
use Rattle.evaluator.proofs.PastOrder.{load_zeros, advance_below, advance_keeps, readings_below}

-- case A with the x of 3 that document 02 gives it: A's own frame is refused by 8
unfoldable pub frame_A : List ℕ
frame_A = 1 ∷ 16 ∷ 68 ∷ 12 ∷ 50 ∷ 0 ∷ []

-- its job, of order 2, and the same with 7 in row 2, counted from 0
unfoldable pub job_A : State
job_A = fresh (record { kind = 0; code = 0; p = 1; f = 4; n = 2; m = 4 }) (pos 3 ∷ pos 3 ∷ pos 8 ∷ [])

abbrev pub spoilt_A : State
spoilt_A = overwritten job_A 2 0 0 (pos 7)

alike_A : SameBelow job_A spoilt_A
unfolding job_A fresh
alike_A = overwritten_below job_A 2 0 0 (pos 7) (omega arith) (omega arith) (omega arith)

lengths_A : SameLengths job_A spoilt_A
unfolding job_A fresh list_from
lengths_A = record { residuals = refl; digits = refl }

-- ---- what the definitions give of the job as load makes it

after_A : ((advanced job_A 3).refusal ≡ 0) × ((advanced job_A 3).made ≡ 3) × ((advanced (advanced job_A 3).state 9).made ≡ 2)
    × ((advanced (advanced job_A 3).state 9).state.header.n ≡ 2) × ((advanced job_A 3).additions ≡ 1)
unfolding job_A advanced advance_checks steps_made steps one_step steps_additions step_additions fresh breaks_limit beyond curve_entry matrix right_side first_row_from every weight total dot sum list_from stores stepped_digits stepped_residuals shifted next_digit next_residual select rounded estimate cut_down digit_size
after_A = (refl, refl, refl, refl, refl)

last_A : (entry (advanced (advanced job_A 3).state 9).state.digits 4 0 ≡ negsuc 0)
    × (readings_list (advanced job_A 3).state (pos 9 ∷ pos 9 ∷ pos 9 ∷ []) ≡ pos 2 ∷ pos 4 ∷ pos 9 ∷ [])
    × (readings_refusal (advanced job_A 3).state 1 ≡ 23)
unfolding job_A advanced advance_checks steps_made steps one_step readings_checks readings_list fresh breaks_limit beyond curve_entry matrix right_side first_row_from every weight total dot sum list_from stores stepped_digits stepped_residuals shifted next_digit next_residual select rounded estimate cut_down digit_size reading
last_A = (refl, refl, refl)

-- ---- and from the statements, of the other

module _ (below : AdvanceBelow) where
  -- three steps with one addition, and then the two that are left
  first_A : ((advanced spoilt_A 3).refusal ≡ 0) × ((advanced spoilt_A 3).made ≡ 3) × ((advanced spoilt_A 3).additions ≡ 1)
  first_A =
      let x = below job_A spoilt_A 3 alike_A in
      (sym x.refusal ∙ after_A.0, sym x.made ∙ after_A.1, sym (x.additions lengths_A) ∙ after_A.4)

  alike_then : SameBelow (advanced job_A 3).state (advanced spoilt_A 3).state
  alike_then = (below job_A spoilt_A 3 alike_A).state lengths_A

  second_A : (advanced (advanced spoilt_A 3).state 9).made ≡ 2
  second_A = sym (below _ _ 9 alike_then).made ∙ after_A.2

  -- the digit of step 5 and row 1 is -1
  digit_A : entry (advanced (advanced spoilt_A 3).state 9).state.digits 4 0 ≡ negsuc 0
  digit_A =
      sym (((below _ _ 9 alike_then).state ((below job_A spoilt_A 3 alike_A).lengths lengths_A)).digits 4 0 (omega arith) (omega (arith, after_A.3))) ∙ last_A.0

  -- the readings after three steps are 2 and 4, and a list of one word is too short
  readings_A : ReadingsBelow → (readings_list (advanced spoilt_A 3).state (pos 9 ∷ pos 9 ∷ pos 9 ∷ []) ≡ pos 2 ∷ pos 4 ∷ pos 9 ∷ [])
      × (readings_refusal (advanced spoilt_A 3).state 1 ≡ 23)
  readings_A reads = let x = reads _ _ alike_then in (sym (x.list _) ∙ last_A.1, sym (x.refusal 1) ∙ last_A.2)

module _ (keeps : AdvanceKeeps) where
  -- the 7 is where it was
  kept_A : (entry (advanced spoilt_A 3).state.g 2 0 ≡ pos 7) × (at (advanced spoilt_A 3).state.z 2 ≡ pos 7) × (entry (advanced spoilt_A 3).state.digits 0 2 ≡ pos 7)
  unfolding job_A fresh list_from
  kept_A =
      let x = keeps spoilt_A 3 in
      (sym (x.matrix 2 0 (omega arith) (omega arith) (inl (omega arith))), sym (x.residuals 2 (omega arith) (omega arith)), sym (x.digits 0 2 (omega arith) (omega arith) (omega arith)))

module _ (zeros : LoadZeros) where
  -- load leaves 0 there
  zero_A : (entry (loaded frame_A).state.g 2 0 ≡ pos 0) × (at (loaded frame_A).state.z 2 ≡ pos 0) × (entry (loaded frame_A).state.digits 0 2 ≡ pos 0)
  unfolding frame_A loaded fresh frame_checks field number bits values_from decode curve_entry matrix right_side first_row_from every weight total
  zero_A =
      let x = zeros frame_A in
      (x.matrix 2 0 (omega arith) (omega arith) (inl (omega arith)), x.residuals 2 (omega arith) (omega arith), x.digits 0 2 (omega arith) (omega arith) (omega arith))

-- the statements are proved
pub past_order_A : ((advanced spoilt_A 3).made ≡ 3) × ((advanced spoilt_A 3).additions ≡ 1) × (entry (advanced spoilt_A 3).state.g 2 0 ≡ pos 7)
    × (readings_list (advanced spoilt_A 3).state (pos 9 ∷ pos 9 ∷ pos 9 ∷ []) ≡ pos 2 ∷ pos 4 ∷ pos 9 ∷ [])
    × (entry (loaded frame_A).state.g 2 0 ≡ pos 0)
past_order_A = ((first_A advance_below).1, (first_A advance_below).2, (kept_A advance_keeps).0, (readings_A advance_below readings_below).0, (zero_A load_zeros).0)
