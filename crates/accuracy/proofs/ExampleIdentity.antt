-- `identity` of demand 3 on case A with an x of 3: from the statement alone, both sides of
-- r^k (b - A y) = z + G d in row 1.
use mathlib.Core.Path.{◌≡◌}
use mathlib.Core.List.{List}
use Prim.Native.Nat.{ℕ, ◌<◌, ◌≤◌}
use native.Mathlib.Omega.{arith}
use lib.IntN.{pos, ◌+ℤ◌}
use Rattle.integers.specs.Flat.{at}
use Rattle.integers.specs.Sum.{dot, sum}
use Rattle.bitfields.specs.Layout.{field, number, bits, values_from}
use Rattle.bitfields.specs.Twos.{decode}
use Rattle.system.specs.System.{curve_entry, matrix, right_side}
use Rattle.recurrence.specs.Recurrence.{reading}
use Rattle.scale.specs.Scale.{every}
use Rattle.accuracy.specs.Accuracy.{Call, Accurate, after, held_digit, true_digit}
use Rattle.evaluator.proofs.ExamplePastOrder.{frame_A}
use Rattle.accuracy.proofs.ExampleA.{one_step_A, two_steps_A, digit_1_A, digit_2_A}
use Rattle.accuracy.proofs.ExampleDigits.{steps-one, steps_two, held_A}

module _ (holds : (calls : List Call) → Accurate frame_A calls) where
  -- after one step the digits and the readings are 0 and 1: 2 × 3 - (16 × 0 - 3 × 1) = z + 3 × 1
  pub identity-one : pos 9 ≡ at (after frame_A one_step_A).z 0 +ℤ pos 3
  unfolding frame_A field number bits values_from decode curve_entry matrix right_side dot sum reading every
  identity-one = rw (steps-one holds, held 0 (omega arith), held 1 (omega arith), digit_1_A 0, digit_2_A 0) at ((holds one_step_A).identity 0 (omega arith))
    where
      held : (i : ℕ) → i < 2 → held_digit frame_A one_step_A 1 i ≡ true_digit frame_A 1 i
      held i l = held_A holds one_step_A 1 (steps-one holds) 1 i (omega arith) (omega arith) (omega arith)

  -- after two steps the digits are 1 and 0 and the readings 1 and 2: 4 × 3 - (16 × 1 - 3 × 2) = z + 3 × 0
  pub identity_two : pos 2 ≡ at (after frame_A two_steps_A).z 0 +ℤ pos 0
  unfolding frame_A field number bits values_from decode curve_entry matrix right_side dot sum reading every
  identity_two =
      rw (
        steps_two holds,
        held 1 0 (omega arith) (omega arith) (omega arith),
        held 1 1 (omega arith) (omega arith) (omega arith),
        held 2 0 (omega arith) (omega arith) (omega arith),
        held 2 1 (omega arith) (omega arith) (omega arith),
        digit_1_A 0,
        digit_1_A 1,
        digit_2_A 0,
        digit_2_A 1,
      )
      at ((holds two_steps_A).identity 0 (omega arith))
    where
      held : (j i : ℕ) → 1 ≤ j → j ≤ 2 → i < 2 → held_digit frame_A two_steps_A j i ≡ true_digit frame_A j i
      held j i a b c = held_A holds two_steps_A 2 (steps_two holds) j i (omega arith) (omega arith) (omega arith)
