-- The digit count on a frame whose last residual is -1/2: from the statement alone, how near the last reading
-- lies to the exact value, and that with two digits more the count would be false of it.
use mathlib.Core.Path.{◌≡◌, refl}
use mathlib.Core.List.{List, [], ◌∷◌}
use Prim.Native.Nat.{ℕ, zero, suc, ◌*◌, ◌<◌}
use native.Mathlib.Omega.{arith}
use lib.IntN.{pos, nat_abs, ◌-ℤ◌, ◌*ℤ◌}
use Rattle.integers.specs.Flat.{list_from, stores}
use Rattle.integers.specs.Sum.{dot, weight, sum, total}
use Rattle.bitfields.specs.Layout.{field, number, bits, values_from}
use Rattle.bitfields.specs.Twos.{decode}
use Rattle.system.specs.Rows.{first_row_from}
use Rattle.system.specs.System.{curve_entry, matrix, right_side}
use Rattle.scale.specs.Scale.{every}
use Rattle.frame.specs.Frame.{frame_checks, frame_refusal}
use Rattle.stepping.specs.Steps.{stepped_digits, stepped_residuals, steps, one_step}
use Rattle.recurrence.specs.Recurrence.{shifted, next_digit, next_residual, reading, select, rounded, estimate, cut_down, digit_size}
use Rattle.state.specs.State.{beyond, fresh, breaks_limit}
use Rattle.evaluator.specs.Evaluator.{loaded, advanced, advance_checks, steps_made}
use Rattle.accuracy.specs.Accuracy as calls
use Rattle.accuracy.specs.Accuracy.{Call, advance, budgets, Accurate, ExactValues, G, b, after, Y}
use Rattle.accuracy.proofs.Demand3.{accurate}

-- polynomial, r 2, p 1, f 6, n 1, m 4; p_0 is 1/64
unfoldable frame_half : List ℕ
frame_half = 1 ∷ 24 ∷ 4 ∷ 0 ∷ 1 ∷ []

unfoldable calls_half : List Call
calls_half = advance 60 ∷ []

-- ---- what the definitions give

accepted_half : frame_refusal frame_half ≡ 0
unfolding frame_half frame_checks field number bits values_from decode curve_entry matrix right_side first_row_from every weight total
accepted_half = refl

-- 1/64 solves its row
exact_half : ExactValues frame_half (λ i. pos 1) 64
unfolding frame_half field number bits values_from decode curve_entry matrix right_side dot sum
exact_half = record { solves = solves-row }
  where
    solves-row : (i : ℕ) → i < 1 → pos 64 *ℤ pos 1 -ℤ dot 1 (G frame_half i) (λ j. pos 1) ≡ pos 64 *ℤ b frame_half i
    solves-row zero l = refl
    solves-row (suc i) l = absurd (omega arith)

-- the last reading is 1, which stands for 1/32
spelt_half : Y frame_half calls_half 5 0 ≡ pos 1
unfolding frame_half calls_half calls.run loaded advanced advance_checks steps_made steps one_step fresh breaks_limit beyond frame_checks field number bits values_from decode curve_entry matrix right_side first_row_from every weight total dot sum list_from stores stepped_digits stepped_residuals shifted next_digit next_residual select rounded estimate cut_down digit_size reading
spelt_half = refl

-- ---- what the statement gives

module _ (holds : (calls : List Call) → Accurate frame_half calls) where
  steps_half : (after frame_half calls_half).k ≡ 5
  unfolding frame_half calls_half budgets field number bits values_from decode right_side every
  steps_half = omega (arith, (holds calls_half).steps_made)

  -- 16 × |1 × 32 - 64 × 1 × 1| < 64 × 32
  count_half : 16 * nat_abs (pos 1 *ℤ pos 32 -ℤ pos 64 *ℤ pos 1 *ℤ pos 1) < 2048
  unfolding frame_half field number bits values_from decode right_side every
  count_half =
      rw spelt_half at ((holds calls_half).digit_count steps_half (λ i. pos 1) 64 (omega (arith, steps_half)) exact_half 0 (omega arith))

-- the statement is proved, and with 2^6 for 2^4 it would be false
pub numbers_half : (16 * nat_abs (pos 1 *ℤ pos 32 -ℤ pos 64 *ℤ pos 1 *ℤ pos 1) < 2048)
    × ¬ (64 * nat_abs (pos 1 *ℤ pos 32 -ℤ pos 64 *ℤ pos 1 *ℤ pos 1) < 2048)
numbers_half = (count_half (accurate frame_half accepted_half), λ l. omega arith)
