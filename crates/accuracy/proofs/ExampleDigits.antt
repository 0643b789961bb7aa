-- `steps_made`, `digits` and `later_digits` of demand 3 on case A with an x of 3: from the statement alone,
-- the steps made and the digits held.
use mathlib.Core.Path.{◌≡◌, refl, ap}
use mathlib.Core.List.{List, [], ◌∷◌, map}
use Prim.Native.Nat.{ℕ, ◌<◌, ◌≤◌}
use native.Mathlib.Omega.{arith}
use lib.IntN.{ℤ, pos, negsuc}
use Rattle.integers.specs.Flat.{at}
use Rattle.bitfields.specs.Layout.{field, number, bits, values_from}
use Rattle.recurrence.specs.Recurrence.{reading}
use Rattle.bitfields.specs.Twos.{decode}
use Rattle.system.specs.System.{right_side}
use Rattle.scale.specs.Scale.{every}
use Rattle.accuracy.specs.Accuracy.{Call, budgets, Accurate, after, held_digit, true_digit, Y}
use Rattle.evaluator.proofs.ExamplePastOrder.{frame_A}
use Rattle.accuracy.proofs.ExampleA.{calls_A, one_step_A, two_steps_A, digits_A}

module _ (holds : (calls : List Call) → Accurate frame_A calls) where
  -- the budgets 1, 0 and 9 make five steps, since the fifth is the last
  pub steps_A : (after frame_A calls_A).k ≡ 5
  unfolding frame_A calls_A budgets field number bits values_from decode right_side every
  steps_A = omega (arith, (holds calls_A).steps_made)

  -- a budget of 1 makes one step
  pub steps-one : (after frame_A one_step_A).k ≡ 1
  unfolding frame_A one_step_A budgets field number bits values_from decode right_side every
  steps-one = omega (arith, (holds one_step_A).steps_made)

  -- and one of 2 makes two
  pub steps_two : (after frame_A two_steps_A).k ≡ 2
  unfolding frame_A two_steps_A budgets field number bits values_from decode right_side every
  steps_two = omega (arith, (holds two_steps_A).steps_made)

  -- in the steps made the digits are those of the steps on the frame's numbers
  pub held_A : (calls : List Call) (k : ℕ) → (after frame_A calls).k ≡ k → (j i : ℕ) → 1 ≤ j → j ≤ k → i < 2 → held_digit frame_A calls j i ≡ true_digit frame_A j i
  unfolding frame_A field number bits
  held_A calls k e j i a b c = (holds calls).digits j i (omega arith) (omega arith) (omega arith)

  -- after five steps the digits of row 1 are 0, 1, 0, 1, -1
  pub row_A : map (λ j. held_digit frame_A calls_A j 0) (1 ∷ 2 ∷ 3 ∷ 4 ∷ 5 ∷ []) ≡ pos 0 ∷ pos 1 ∷ pos 0 ∷ pos 1 ∷ negsuc 0 ∷ []
  row_A =
      rw (
        held_A calls_A 5 steps_A 1 0 (omega arith) (omega arith) (omega arith),
        held_A calls_A 5 steps_A 2 0 (omega arith) (omega arith) (omega arith),
        held_A calls_A 5 steps_A 3 0 (omega arith) (omega arith) (omega arith),
        held_A calls_A 5 steps_A 4 0 (omega arith) (omega arith) (omega arith),
        held_A calls_A 5 steps_A 5 0 (omega arith) (omega arith) (omega arith),
      )
      digits_A.0

  -- which spell 1 after two of the steps and 9 after all five
  pub spelt_A : (Y frame_A calls_A 2 0 ≡ pos 1) × (Y frame_A calls_A 5 0 ≡ pos 9)
  unfolding frame_A reading field number bits
  spelt_A = (rw (held 0, held 1) refl, rw (held 0, held 1, held 2, held 3, held 4) refl)
    where
      held : (t : ℕ) → at (map (λ j. held_digit frame_A calls_A j 0) (1 ∷ 2 ∷ 3 ∷ 4 ∷ 5 ∷ [])) t ≡ at (pos 0 ∷ pos 1 ∷ pos 0 ∷ pos 1 ∷ negsuc 0 ∷ []) t
      held t = ap (λ (row : List ℤ). at row t) row_A

  -- after two steps the digit of step 4 and row 1, which that step makes 1, is 0
  pub later_A : held_digit frame_A two_steps_A 4 0 ≡ pos 0
  unfolding frame_A field number bits
  later_A = (holds two_steps_A).later_digits 4 0 (omega (arith, steps_two)) (omega arith) (omega arith)
