-- What `evaluate` promises, on document 01's case D and on A with an x of 3: from the promise alone, the
-- answer and every word of the list.
use mathlib.Core.Path.{◌≡◌, ◌∙◌}
use mathlib.Core.List.{List, [], ◌∷◌}
use Prim.Native.Nat.{ℕ, ◌*◌, ◌<◌}
use native.Mathlib.Omega.{arith}
use lib.IntN.{ℤ, pos, nat_abs, ◌-ℤ◌, ◌*ℤ◌}
use Rattle.integers.specs.Sum.{weight, total}
use Rattle.bitfields.specs.Layout.{field, number, bits, values_from}
use Rattle.bitfields.specs.Twos.{decode}
use Rattle.system.specs.Rows.{first_row_from}
use Rattle.system.specs.System.{curve_entry, matrix, right_side}
use Rattle.frame.specs.Frame.{frame_checks}
use Rattle.scale.specs.Scale.{every}
use Rattle.accuracy.specs.Accuracy.{advance, readings, budgets, after}
use Rattle.calls.specs.Promise.{Promise}
use Rattle.calls.specs.Promise.{Evaluated}
use Rattle.evaluator.proofs.ExamplePastOrder.{frame_A}
use Rattle.accuracy.proofs.ExampleA.{calls_A, accepted_A, values_A, exact_A, readings_A, frame_D}

-- ---- D: x 5 in A

-- it is refused by 8 with row 1, no step is made, and no word of the list changes
pub promised_D : (list : List ℕ) (given : List ℤ) (r : Evaluated) (final : List ℤ) → Promise frame_D list given r final → (r ≡ record { refusal = 8; row = 1; scale = 0; made = 0; additions = 0 }) × (final ≡ given)
unfolding frame_D frame_checks field number bits values_from decode curve_entry matrix right_side first_row_from every weight total
promised_D list given r final p = p.refused (omega arith)

-- ---- A, with the budgets 1, 0 and 9 and three words lent

module _ (x y w : ℤ) (r : Evaluated) (final : List ℤ) (p : Promise frame_A (1 ∷ 0 ∷ 9 ∷ []) (x ∷ y ∷ w ∷ []) r final) where
  -- it is not refused, five steps are made and one addition is counted, and the list has 9, 16 and the third
  -- word as it was
  pub promised_A : (r ≡ record { refusal = 0; row = 0; scale = 0; made = 5; additions = 1 }) × (final ≡ pos 9 ∷ pos 16 ∷ w ∷ [])
  unfolding calls_A
  promised_A =
      let q = p.accepted (omega (arith, accepted_A)) in
      (q.0 ∙ rw ((readings_A x y w).3, (readings_A x y w).4, (readings_A x y w).6, (readings_A x y w).7), q.1 ∙ (readings_A x y w).5)

  -- and demand 3 holds of the calls: after them five steps are made
  pub promised_steps_A : (after frame_A (advance 1 ∷ advance 0 ∷ advance 9 ∷ readings (x ∷ y ∷ w ∷ []) ∷ [])).k ≡ 5
  unfolding frame_A budgets field number bits values_from decode right_side every
  promised_steps_A = omega (arith, (p.accurate (omega (arith, accepted_A))).steps_made)

  -- the budgets make all steps, and row 1's word is nearer than 1/16 to 9/32:
  -- 16 × |9 × 32 - 32 × 9 × 1| < 32 × 32
  pub promised_count_A : 16 * nat_abs (pos 9 *ℤ pos 32 -ℤ pos 32 *ℤ pos 9 *ℤ pos 1) < 1024
  unfolding frame_A values_A budgets field number bits values_from decode right_side every
  promised_count_A =
      rw promised_A.1 at (p.digit_count (omega (arith, accepted_A)) (omega arith) (omega arith) values_A 32 (omega (arith, accepted_A)) exact_A 0 (omega arith))

-- ---- and with one word lent: refused by 23, the steps are made and their additions counted

promised_short_A : (x : ℤ) (r : Evaluated) (final : List ℤ) → Promise frame_A (1 ∷ 0 ∷ 9 ∷ []) (x ∷ []) r final
    → (r ≡ record { refusal = 23; row = 0; scale = 0; made = 5; additions = 1 }) × (final ≡ x ∷ [])
unfolding calls_A
promised_short_A x r final p =
    let q = p.accepted (omega (arith, accepted_A)) in
    let s = readings_A x x x in
    (q.0 ∙ rw (s.8, s.4, s.6, s.7), q.1 ∙ s.9)
