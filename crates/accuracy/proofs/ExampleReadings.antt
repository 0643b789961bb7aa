-- `handed_out` and `nothing_out` of demand 3 on case A with an x of 3: from the statement alone, the words
-- that readings leave, in a list of calls with refused ones among them.
use mathlib.Core.Path.{◌≡◌, refl, ◌∙◌}
use mathlib.Core.List.{List, [], ◌∷◌}
use Prim.Native.Nat.{ℕ, ◌<◌}
use native.Mathlib.Omega.{arith}
use lib.IntN.{pos}
use Rattle.integers.specs.Flat.{at}
use Rattle.bitfields.specs.Layout.{field, number, bits, values_from}
use Rattle.recurrence.specs.Recurrence.{reading}
use Rattle.evaluator.specs.Evaluator.{readings_list}
use Rattle.bitfields.specs.Twos.{decode}
use Rattle.system.specs.System.{right_side}
use Rattle.scale.specs.Scale.{every}
use Rattle.accuracy.specs.Accuracy.{Call, advance, readings, budgets, Accurate, after, true_digit}
use Rattle.evaluator.proofs.ExamplePastOrder.{frame_A}
use Rattle.accuracy.proofs.ExampleA.{lent_A, two_steps_A, middle_A, end_A, mixed_A, digit_1_A, digit_2_A, readings_A}

-- what the first two digits of row 1 and of row 2 spell
spelt : (reading 2 (true_digit frame_A) 2 0 ≡ pos 1) × (reading 2 (true_digit frame_A) 2 1 ≡ pos 2)
unfolding reading
spelt = (rw (digit_1_A 0, digit_1_A 1) refl, rw (digit_2_A 0, digit_2_A 1) refl)

module _ (holds : (calls : List Call) → Accurate frame_A calls) where
  -- the readings in the middle hand out both rows' readings after two steps
  pub handed_A : (at (readings_list (after frame_A middle_A) lent_A) 0 ≡ pos 1)
      × (at (readings_list (after frame_A middle_A) lent_A) 1 ≡ pos 2)
  unfolding frame_A middle_A mixed_A budgets field number bits values_from decode right_side every
  handed_A = (word 0 (omega arith) ∙ spelt.0, word 1 (omega arith) ∙ spelt.1)
    where
      word : (i : ℕ) → i < 2 → at (readings_list (after frame_A middle_A) lent_A) i ≡ reading 2 (true_digit frame_A) 2 i
      word i l =
          (holds mixed_A).handed_out middle_A (advance 9 ∷ readings (pos 9 ∷ []) ∷ []) lent_A refl
          (omega (arith, readings_A (pos 7) (pos 7) (pos 7))) i (omega arith)

  -- the refused readings before them hand nothing out
  pub nothing_A : readings_list (after frame_A two_steps_A) [] ≡ []
  unfolding two_steps_A mixed_A
  nothing_A =
      (holds mixed_A).nothing_out two_steps_A (advance 0 ∷ readings lent_A ∷ advance 9 ∷ readings (pos 9 ∷ []) ∷ []) [] refl
      (omega (arith, readings_A (pos 7) (pos 7) (pos 7)))

  -- and those at the end leave their one word as it was
  pub one_word_A : readings_list (after frame_A end_A) (pos 9 ∷ []) ≡ pos 9 ∷ []
  unfolding end_A mixed_A
  one_word_A = (holds mixed_A).nothing_out end_A [] (pos 9 ∷ []) refl (omega (arith, readings_A (pos 7) (pos 7) (pos 7)))
