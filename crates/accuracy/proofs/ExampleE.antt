-- Demand 3 at work on case E with an x of 3, p_0 9 in A, whose scale is 1: from the statement alone, the
-- scale, the steps, how near two digits come and how near all, and the identity over the divided right-hand
-- sides.
use mathlib.Core.Path.{◌≡◌, refl}
use mathlib.Core.List.{List, [], ◌∷◌}
use Prim.Native.Nat.{ℕ, zero, suc, ◌*◌, ◌<◌, ◌≤◌}
use native.Mathlib.Omega.{arith}
use lib.IntN.{ℤ, pos, negsuc, nat_abs, ◌+ℤ◌, ◌-ℤ◌, ◌*ℤ◌}
use Rattle.integers.specs.Flat.{at, list_from, stores}
use Rattle.integers.specs.Sum.{dot, weight, sum, total}
use Rattle.bitfields.specs.Layout.{field, number, bits, values_from}
use Rattle.bitfields.specs.Twos.{decode}
use Rattle.system.specs.Rows.{first_row_from}
use Rattle.system.specs.System.{curve_entry, matrix, right_side}
use Rattle.scale.specs.Scale.{every}
use Rattle.frame.specs.Frame.{frame_checks, frame_refusal}
use Rattle.stepping.specs.Steps.{stepped_digits, stepped_residuals, steps, one_step}
use Rattle.recurrence.specs.Recurrence.{shifted, next_digit, next_residual, reading, select, rounded, estimate, cut_down, digit_size}
use Rattle.state.specs.State.{beyond, fresh, breaks_limit}
use Rattle.evaluator.specs.Evaluator.{loaded, advanced, advance_checks, steps_made}
use Rattle.accuracy.specs.Accuracy as calls
use Rattle.accuracy.specs.Accuracy.{Call, advance, budgets, Accurate, ExactValues, G, b, after, held_digit, Y}
use Rattle.accuracy.proofs.Demand3.{accurate}

-- case E with the x of 3 that document 02 gives A: E's own frame is refused by 8
unfoldable pub frame_E : List ℕ
frame_E = 1 ∷ 16 ∷ 68 ∷ 12 ∷ 146 ∷ 0 ∷ []

-- all steps, and a single one
unfoldable pub calls_E : List Call
calls_E = advance 9 ∷ []

unfoldable pub one_step_E : List Call
one_step_E = advance 1 ∷ []

-- ---- what the definitions give

pub accepted_E : frame_refusal frame_E ≡ 0
unfolding frame_E frame_checks field number bits values_from decode curve_entry matrix right_side first_row_from every weight total
accepted_E = refl

-- 21/32 and 16/32 solve both rows
unfoldable pub values_E : ℕ → ℤ
values_E = at (pos 21 ∷ pos 16 ∷ [])

exact_E : ExactValues frame_E values_E 32
unfolding frame_E values_E field number bits values_from decode curve_entry matrix right_side dot sum
exact_E = record { solves = solves-row }
  where
    solves-row : (i : ℕ) → i < 2 → pos 16 *ℤ values_E i -ℤ dot 2 (G frame_E i) values_E ≡ pos 32 *ℤ b frame_E i
    solves-row zero l = refl
    solves-row (suc zero) l = refl
    solves-row (suc (suc i)) l = absurd (omega arith)

-- the first two digits of row 1 spell 1, and all six 21; after one step the digits are 1 and 1
spelt_E : (Y frame_E calls_E 2 0 ≡ pos 1) × (Y frame_E calls_E 6 0 ≡ pos 21) × (held_digit frame_E one_step_E 1 0 ≡ pos 1) × (held_digit frame_E one_step_E 1 1 ≡ pos 1)
unfolding frame_E calls_E one_step_E calls.run loaded advanced advance_checks steps_made steps one_step fresh breaks_limit beyond frame_checks field number bits values_from decode curve_entry matrix right_side first_row_from every weight total dot sum list_from stores stepped_digits stepped_residuals shifted next_digit next_residual select rounded estimate cut_down digit_size reading
spelt_E = (refl, refl, refl, refl)

-- ---- what the statement gives

module _ (holds : (calls : List Call) → Accurate frame_E calls) where
  -- the last step is the sixth: m is 4, and the scale 1
  steps_E : (after frame_E calls_E).k ≡ 6
  unfolding frame_E calls_E budgets field number bits values_from decode right_side every
  steps_E = omega (arith, (holds calls_E).steps_made)

  pub steps-one : (after frame_E one_step_E).k ≡ 1
  unfolding frame_E one_step_E budgets field number bits values_from decode right_side every
  steps-one = omega (arith, (holds one_step_E).steps_made)

  scale_E : (after frame_E calls_E).scale ≡ 1
  unfolding frame_E field number bits values_from decode right_side every
  scale_E = (holds calls_E).scale_held

  -- row 1's value is 21/32; the first two digits spell 1, and r^s is 2: |21 × 4 - 32 × 1 × 2| ≤ 32 × 2
  near_E : nat_abs (pos 21 *ℤ pos 4 -ℤ pos 32 *ℤ pos 1 *ℤ pos 2) ≤ 64
  unfolding frame_E values_E field number bits values_from decode right_side every
  near_E =
      omega (arith, rw spelt_E.0 at ((holds calls_E).near 2 (omega (arith, steps_E)) values_E 32 (omega (arith, steps_E)) exact_E 0 (omega arith)))

  -- the last reading, divided by r^6 and multiplied by r^s, is nearer than 1/16 to 21/32:
  -- 16 × |21 × 64 - 32 × 21 × 2| < 32 × 64
  count_E : 16 * nat_abs (pos 21 *ℤ pos 64 -ℤ pos 32 *ℤ pos 21 *ℤ pos 2) < 2048
  unfolding frame_E values_E field number bits values_from decode right_side every
  count_E = rw spelt_E.1 at ((holds calls_E).digit_count steps_E values_E 32 (omega (arith, steps_E)) exact_E 0 (omega arith))

  -- in units of 1/32, after one step: 2 × 9 - (32 × 1 - 6 × 1) = z + 6 × 1
  identity_E : negsuc 7 ≡ at (after frame_E one_step_E).z 0 +ℤ pos 6
  unfolding frame_E field number bits values_from decode curve_entry matrix right_side dot sum reading every
  identity_E = rw (steps-one, spelt_E.2, spelt_E.3) at ((holds one_step_E).identity 0 (omega arith))

-- the statement is proved
pub numbers_E : ((after frame_E calls_E).k ≡ 6) × ((after frame_E calls_E).scale ≡ 1) × (nat_abs (pos 21 *ℤ pos 4 -ℤ pos 32 *ℤ pos 1 *ℤ pos 2) ≤ 64)
    × (16 * nat_abs (pos 21 *ℤ pos 64 -ℤ pos 32 *ℤ pos 21 *ℤ pos 2) < 2048) × (negsuc 7 ≡ at (after frame_E one_step_E).z 0 +ℤ pos 6)
numbers_E =
    let holds : (calls : List Call) → Accurate frame_E calls = accurate frame_E accepted_E in
    (steps_E holds, scale_E holds, near_E holds, count_E holds, identity_E holds)
