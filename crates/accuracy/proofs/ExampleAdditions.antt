-- `additions_counted`, `additions_most` and `additions_by_kind` of demand 3 on case E with an x of 3, a
-- polynomial, and on case B with a q_1 of 3, a rational curve: from the statement alone, the additions that
-- calls counted, and the most that they can be. In E both bounds are met.
use mathlib.Core.Path.{◌≡◌, ap, ◌∙◌}
use mathlib.Core.List.{List, [], ◌∷◌}
use Prim.Native.Nat.{◌≤◌}
use native.Mathlib.Omega.{arith}
use Rattle.integers.specs.Sum.{dot, sum, total}
use Rattle.bitfields.specs.Layout.{field, number, bits, values_from}
use Rattle.bitfields.specs.Twos.{decode}
use Rattle.system.specs.System.{curve_entry, matrix, right_side}
use Rattle.additions.specs.Additions.{step_additions, additions, entries}
use Rattle.scale.specs.Scale.{every}
use Rattle.recurrence.specs.Recurrence.{shifted, next_digit, next_residual, digit, residual, select, rounded, estimate, cut_down, digit_size}
use Rattle.accuracy.specs.Accuracy.{Call, advance, readings, budgets, job_additions, Accurate, after, additions_made}
use Rattle.accuracy.proofs.Demand3.{accurate}
use Rattle.accuracy.proofs.ExampleE.{frame_E, one_step_E, accepted_E, steps-one}
use Rattle.accuracy.proofs.Examples.{frame_B, accepted_B}

-- ---- E: G has one entry other than 0, in row 1 and column 2

-- two steps, an advance that is refused by 22, and a third step
unfoldable pub three_steps_E : List Call
three_steps_E = advance 2 ∷ advance 0 ∷ advance 1 ∷ []

module _ (holds : (calls : List Call) → Accurate frame_E calls) where
  steps_three : (after frame_E three_steps_E).k ≡ 3
  unfolding frame_E three_steps_E budgets field number bits values_from decode right_side every
  steps_three = omega (arith, (holds three_steps_E).steps_made)

  -- the digits of row 2 are 1 and -1 in the first two steps: the second step has an addition, and the third
  counted_E : additions_made frame_E three_steps_E ≡ 2
  unfolding frame_E additions step_additions total field number bits values_from decode curve_entry matrix right_side every dot sum digit residual shifted next_digit next_residual select rounded estimate cut_down digit_size
  counted_E = (holds three_steps_E).additions_counted ∙ ap (job_additions frame_E) steps_three

  -- three steps cannot have more, and a single one has none
  most_E : (additions_made frame_E three_steps_E ≤ 2) × (additions_made frame_E one_step_E ≤ 0)
  unfolding frame_E entries total field number bits values_from decode curve_entry matrix
  most_E = (rw steps_three at (holds three_steps_E).additions_most, rw (steps-one holds) at (holds one_step_E).additions_most)

  -- nor can those of any polynomial of order 2
  by_kind_E : (additions_made frame_E three_steps_E ≤ 2) × (additions_made frame_E one_step_E ≤ 0)
  unfolding frame_E field number bits
  by_kind_E = (rw steps_three at (holds three_steps_E).additions_by_kind, rw (steps-one holds) at (holds one_step_E).additions_by_kind)

-- ---- B: G has two entries other than 0, one in each row

-- three steps, two, and the last one; two advances are refused, by 22 and by 21, and the readings by 23
unfoldable pub mixed_B : List Call
mixed_B = advance 3 ∷ advance 0 ∷ readings [] ∷ advance 2 ∷ advance 7 ∷ advance 1 ∷ []

module _ (holds : (calls : List Call) → Accurate frame_B calls) where
  steps_B : (after frame_B mixed_B).k ≡ 6
  unfolding frame_B mixed_B budgets field number bits values_from decode right_side every
  steps_B = omega (arith, (holds mixed_B).steps_made)

  -- one addition, two, and one
  counted_B : additions_made frame_B mixed_B ≡ 4
  unfolding frame_B additions step_additions total field number bits values_from decode curve_entry matrix right_side every dot sum digit residual shifted next_digit next_residual select rounded estimate cut_down digit_size
  counted_B = (holds mixed_B).additions_counted ∙ ap (job_additions frame_B) steps_B

  -- at most five times the two entries, more than which no rational curve of order 2 has
  most_B : additions_made frame_B mixed_B ≤ 10
  unfolding frame_B entries total field number bits values_from decode curve_entry matrix
  most_B = rw steps_B at (holds mixed_B).additions_most

  by_kind_B : additions_made frame_B mixed_B ≤ 10
  unfolding frame_B field number bits
  by_kind_B = rw steps_B at (holds mixed_B).additions_by_kind

-- the statement is proved
pub numbers-additions : (additions_made frame_E three_steps_E ≡ 2) × (additions_made frame_E three_steps_E ≤ 2) × (additions_made frame_E one_step_E ≤ 0)
    × (additions_made frame_B mixed_B ≡ 4) × (additions_made frame_B mixed_B ≤ 10)
numbers-additions =
    let holds_E : (calls : List Call) → Accurate frame_E calls = accurate frame_E accepted_E in
    let holds_B : (calls : List Call) → Accurate frame_B calls = accurate frame_B accepted_B in
    (counted_E holds_E, (most_E holds_E).0, (by_kind_E holds_E).1, counted_B holds_B, by_kind_B holds_B)
