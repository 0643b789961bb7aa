-- Demand 3 on the sum of quotients that document 02 gives: from the statement alone, the exact value of row
-- 1, how near the last reading lies to it, and the additions that calls counted, with the most that they can
-- be.
use mathlib.Core.Path.{◌≡◌, refl, ap, ◌∙◌}
use mathlib.Core.Bool.{true}
use mathlib.Core.List.{List, [], ◌∷◌}
use Prim.Native.Nat.{ℕ, zero, suc, ◌*◌, ◌<◌, ◌≤◌}
use native.Mathlib.Omega.{arith}
use lib.IntN.{ℤ, pos, nat_abs, ◌-ℤ◌, ◌*ℤ◌}
use lib.Signed.{◌<ℤ◌}
use Rattle.integers.specs.Flat.{at, list_from, stores}
use Rattle.integers.specs.Sum.{dot, weight, sum, total, product, product_without}
use Rattle.integers.proofs.Normal.{solve, polys}
use Rattle.integers.proofs.Order.{zarith}
use Rattle.integers.proofs.Power.{cancel}
use Rattle.bitfields.specs.Layout.{field, number, bits, values_from}
use Rattle.bitfields.specs.Twos.{decode}
use Rattle.system.specs.Rows.{first_row_from}
use Rattle.system.specs.System.{quotients_entry, matrix, right_side}
use Rattle.additions.specs.Additions.{step_additions, additions}
use Rattle.scale.specs.Scale.{every}
use Rattle.frame.specs.Frame.{frame_checks, frame_refusal}
use Rattle.stepping.specs.Steps.{stepped_digits, stepped_residuals, steps, one_step}
use Rattle.recurrence.specs.Recurrence.{shifted, next_digit, next_residual, digit, residual, reading, select, rounded, estimate, cut_down, digit_size}
use Rattle.curve.specs.Curve.{has_value}
use Rattle.curve.specs.Quotients.{divisor, quotients_over, quotients_under}
use Rattle.state.specs.State.{beyond, fresh, breaks_limit}
use Rattle.evaluator.specs.Evaluator.{loaded, advanced, advance_checks, steps_made}
use Rattle.accuracy.specs.Accuracy as calls
use Rattle.accuracy.specs.Accuracy.{Call, advance, budgets, job_additions, Accurate, ExactValues, kind, G, b, after, additions_made, Y}
use Rattle.accuracy.proofs.Demand3.{accurate}

-- r 2, p 1, f 4, n 2, m 4; c_0 4, c_1 2, a_1 8, b_1 2
unfoldable pub frame_Q : List ℕ
frame_Q = 193 ∷ 16 ∷ 68 ∷ 16 ∷ 34 ∷ 2 ∷ []

unfoldable pub calls_Q : List Call
calls_Q = advance 2 ∷ advance 0 ∷ advance 60 ∷ []

-- ---- what the definitions give

accepted_Q : frame_refusal frame_Q ≡ 0
unfolding frame_Q frame_checks field number bits values_from decode quotients_entry matrix right_side first_row_from every weight total
accepted_Q = refl

-- it is a curve
is_curve_Q : has_value (kind frame_Q) ≡ true
unfolding frame_Q field number bits
is_curve_Q = refl

-- 9/28 and 16/28 solve the two rows
abbrev values_Q : ℕ → ℤ
values_Q = at (pos 9 ∷ pos 16 ∷ [])

exact_Q : ExactValues frame_Q values_Q 28
unfolding frame_Q field number bits values_from decode quotients_entry matrix right_side dot sum
exact_Q = record { solves = solves-row }
  where
    solves-row : (i : ℕ) → i < 2 → pos 16 *ℤ values_Q i -ℤ dot 2 (G frame_Q i) values_Q ≡ pos 28 *ℤ b frame_Q i
    solves-row zero l = refl
    solves-row (suc zero) l = refl
    solves-row (suc (suc i)) l = absurd (omega arith)

-- the last reading is 10, which stands for 10/32
spelt_Q : Y frame_Q calls_Q 5 0 ≡ pos 10
unfolding frame_Q calls_Q calls.run loaded advanced advance_checks steps_made steps one_step fresh breaks_limit beyond frame_checks field number bits values_from decode quotients_entry matrix right_side first_row_from every weight total dot sum list_from stores stepped_digits stepped_residuals shifted next_digit next_residual select rounded estimate cut_down digit_size reading
spelt_Q = refl

-- ---- what the statement gives

module _ (holds : (calls : List Call) → Accurate frame_Q calls) where
  steps_Q : (after frame_Q calls_Q).k ≡ 5
  unfolding frame_Q calls_Q budgets field number bits values_from decode right_side every
  steps_Q = omega (arith, (holds calls_Q).steps_made)

  -- row 1's exact value is 72/224, which is 9/28, in every solution
  value_Q : (N : ℕ → ℤ) (D : ℕ) → ExactValues frame_Q N D → pos 224 *ℤ N 0 ≡ pos 72 *ℤ pos D
  unfolding frame_Q field number bits values_from decode quotients_over quotients_under divisor product product_without sum right_side
  value_Q N D exact = ((holds calls_Q).curve is_curve_Q).value N D exact

  lowest_Q : (N : ℕ → ℤ) (D : ℕ) → ExactValues frame_Q N D → pos 28 *ℤ N 0 ≡ pos 9 *ℤ pos D
  lowest_Q N D exact = cancel {d = pos 8} (omega zarith) (first (N 0) (pos D) (value_Q N D exact))
    where
      first : (x d : ℤ) → pos 224 *ℤ x ≡ pos 72 *ℤ d → pos 8 *ℤ (pos 28 *ℤ x) ≡ pos 8 *ℤ (pos 9 *ℤ d)
      first x d e =
          solve (x ∷ []) (search polys depth 12) (search polys depth 12) tt ∙ e ∙ solve (d ∷ []) (search polys depth 12) (search polys depth 12) tt

  -- the denominator 224 is above 0, and there is a solution, with a D above 0
  fraction_Q : pos 0 <ℤ pos 224
  unfolding frame_Q field number bits values_from decode quotients_under divisor product
  fraction_Q = ((holds calls_Q).curve is_curve_Q).denominator_positive

  some_Q : (0 < ((holds calls_Q).curve is_curve_Q).solution_under) × (pos 28 *ℤ ((holds calls_Q).curve is_curve_Q).solution 0 ≡ pos 9 *ℤ pos ((holds calls_Q).curve is_curve_Q).solution_under)
  some_Q =
      (((holds calls_Q).curve is_curve_Q).under_positive, lowest_Q ((holds calls_Q).curve is_curve_Q).solution ((holds calls_Q).curve is_curve_Q).solution_under ((holds calls_Q).curve is_curve_Q).solved)

  -- m is 4: the last reading 10 is nearer than 1/16 to 9/28, as 16 × |9 × 32 - 28 × 10 × 1| < 28 × 32
  count_Q : 16 * nat_abs (pos 9 *ℤ pos 32 -ℤ pos 28 *ℤ pos 10 *ℤ pos 1) < 896
  unfolding frame_Q field number bits values_from decode right_side every
  count_Q = rw spelt_Q at ((holds calls_Q).digit_count steps_Q values_Q 28 (omega (arith, steps_Q)) exact_Q 0 (omega arith))

  -- row 2's digits are other than 0 in the first, third and fourth of the five steps, and column 2 has two
  -- entries, both rows' only ones
  counted_Q : additions_made frame_Q calls_Q ≡ 6
  unfolding frame_Q additions step_additions total field number bits values_from decode quotients_entry matrix right_side every dot sum digit residual shifted next_digit next_residual select rounded estimate cut_down digit_size
  counted_Q = (holds calls_Q).additions_counted ∙ ap (job_additions frame_Q) steps_Q

  -- at most four times the two entries, more than which no sum of quotients of order 2 has
  by_kind_Q : additions_made frame_Q calls_Q ≤ 8
  unfolding frame_Q field number bits
  by_kind_Q = rw steps_Q at (holds calls_Q).additions_by_kind

-- the statement is proved
pub numbers_Q : ((N : ℕ → ℤ) (D : ℕ) → ExactValues frame_Q N D → pos 28 *ℤ N 0 ≡ pos 9 *ℤ pos D)
    × (16 * nat_abs (pos 9 *ℤ pos 32 -ℤ pos 28 *ℤ pos 10 *ℤ pos 1) < 896)
    × (additions_made frame_Q calls_Q ≡ 6)
    × (additions_made frame_Q calls_Q ≤ 8)
numbers_Q =
    let holds_Q : (calls : List Call) → Accurate frame_Q calls = accurate frame_Q accepted_Q in
    (lowest_Q holds_Q, count_Q holds_Q, counted_Q holds_Q, by_kind_Q holds_Q)
