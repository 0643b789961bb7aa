-- Demand 3: what holds after every list of calls from the fresh load of an accepted frame. It is one
-- statement, `Accurate frame calls`, made of document 01's definitions.
use mathlib.Core.{Path.◌≡◌, Bool.true, List.List, List.◌∷◌, List.◌++◌, List.[], List.map}
use Rattle.std.specs.Prelude.{ℕ, ◌*◌, ◌-◌, ◌^◌, ◌<◌, ◌≤◌, ◌+◌}
use lib.{IntN.ℤ, IntN.pos, IntN.nat_abs, IntN.◌+ℤ◌, IntN.◌-ℤ◌, IntN.◌*ℤ◌, ListN.length}
use Rattle.integers.specs.{Flat.at, Sum.dot}
use Rattle.job.specs.{Header.radix, Header.unit, Kind.Kind, Kind.kind_of, Rules.last_step, Rules.scale_factor, Rules.inner_unit}
use Rattle.system.specs.System.{matrix_of, right_side_of}
use Rattle.additions.specs.Additions.{additions, entries, most_entries}
use Rattle.scale.specs.Scale.{job_scale}
use Rattle.header.specs.Header.{header_of}
use Rattle.frame.specs.Frame.{frame_numbers, frame_refusal}
use Rattle.recurrence.specs.Recurrence.{reading, Solves}
use Rattle.curve.specs.Curve.{has_value, value_over, value_under, CurveValue}
use Rattle.state.specs.{State.all_steps, State.digits_of, declared.State.State}
use Rattle.evaluator.specs.Evaluator.{loaded, smaller, readings_refusal, readings_list, advanced}
use Rattle.stepping.specs.Steps.{finer, job_digit}

-- ---- lists of calls (document 01, "Calls"): advance and readings in any order, made of the very
-- definitions that the contracts of advance and readings cite

-- a call: advance with a budget, or readings with a lent list of any length and contents
pub data Call : Type 0 where
  advance : ℕ → Call
  readings : List ℤ → Call

-- the state that a call gives back or leaves
abbrev pub state_after : State → Call → State
state_after s (advance budget) = (advanced s budget).state
state_after s (readings out) = s

-- the state after a list of calls: each gets what the call before gave back or left
unfoldable pub run : State → List Call → State
run s [] = s
run s (c ∷ cs) = run (state_after s c) cs

-- the sum of the budgets, those of refused advances too
unfoldable pub budgets : List Call → ℕ
budgets [] = 0
budgets (advance budget ∷ cs) = budget + budgets cs
budgets (readings out ∷ cs) = budgets cs

-- the additions that a call counts, none where it is no advance or a refused one, and those of all calls
abbrev pub call_additions : State → Call → ℕ
call_additions s (advance budget) = (advanced s budget).additions
call_additions s (readings out) = 0

unfoldable pub calls_additions : State → List Call → ℕ
calls_additions s [] = 0
calls_additions s (c ∷ cs) = call_additions s c + calls_additions (state_after s c) cs

-- an advance for each budget
abbrev pub advances : List ℕ → List Call
advances budgets = map advance budgets

-- ---- a frame's job: the kind, the order n, the radix r, the largest digit p, the digits m that it asks for,
-- the unit u = 2^f of its numbers, the scale s, r^s, the unit u r^s of the residuals inside its states, the
-- last step

abbrev pub kind : List ℕ → Kind
kind frame = kind_of (header_of frame).kind

abbrev pub order : List ℕ → ℕ
order frame = (header_of frame).n

abbrev pub radix_of : List ℕ → ℕ
radix_of frame = radix (header_of frame).code

abbrev pub largest_digit : List ℕ → ℕ
largest_digit frame = (header_of frame).p

abbrev pub digits_asked : List ℕ → ℕ
digits_asked frame = (header_of frame).m

abbrev pub unit_of : List ℕ → ℕ
unit_of frame = unit (header_of frame)

abbrev pub scale_of : List ℕ → ℕ
scale_of frame = job_scale (header_of frame) (frame_numbers frame)

abbrev pub factor_of : List ℕ → ℕ
factor_of frame = scale_factor (header_of frame) (scale_of frame)

abbrev pub inner_unit_of : List ℕ → ℕ
inner_unit_of frame = inner_unit (header_of frame) (scale_of frame)

abbrev pub last_step_of : List ℕ → ℕ
last_step_of frame = last_step (header_of frame) (scale_of frame)

-- the matrix G, which is the identity less A, and the right-hand sides b, in units of 1/u; rows and columns
-- count from 0
abbrev pub G : List ℕ → ℕ → ℕ → ℤ
G frame = matrix_of (header_of frame) (frame_numbers frame)

abbrev pub b : List ℕ → ℕ → ℤ
b frame = right_side_of (header_of frame) (frame_numbers frame)

-- the same in units of 1/(u r^s): G, and the right-hand sides divided by r^s, which are the numbers of b
abbrev pub inner_G : List ℕ → ℕ → ℕ → ℤ
inner_G frame = finer (factor_of frame) (G frame)

abbrev pub divided_b : List ℕ → ℕ → ℤ
divided_b frame = b frame

-- the digit of step j and row i that document 01's steps give on the frame's numbers
abbrev pub true_digit : List ℕ → ℕ → ℕ → ℤ
true_digit frame = job_digit (header_of frame) (scale_of frame) (G frame) (b frame)

-- the additions of its first k steps (document 02, request 6), over G and these digits alone
abbrev pub job_additions : List ℕ → ℕ → ℕ
job_additions frame = additions (order frame) (G frame) (true_digit frame)

-- ---- its exact values

-- whole numbers N, one a row, and D such that the fractions N / D solve all rows: A times their vector is b
abbrev pub ExactValues : List ℕ → (ℕ → ℤ) → ℕ → Type 0
ExactValues frame N D = Solves (order frame) (unit_of frame) D (G frame) (b frame) N

-- exact values exist, and in all of them row 1's N / D is p_0 + p_1 x + .. over 1 + q_1 x + .., or for a sum
-- of quotients c_0 + Σ c_i a_i / (1 - b_i): a fraction whose denominator is above 0
abbrev pub ExactCurve : List ℕ → Type 0
ExactCurve frame =
    CurveValue (order frame) (unit_of frame) (G frame) (b frame)
    (value_over (kind frame) (order frame) (unit_of frame) (frame_numbers frame))
    (value_under (kind frame) (order frame) (unit_of frame) (frame_numbers frame))

-- ---- the digit count: what "m digits" means (document 02, request 2)

-- Readings y after the last step k, one a row, have it where divided by r^k and multiplied by r^s they are
-- nearer than r^-m to every exact value: r^m |N r^k - D y r^s| < D r^k
abbrev pub DigitCount : List ℕ → (ℕ → ℤ) → Type 0
DigitCount frame y = (N : ℕ → ℤ) (D : ℕ) → 0 < D → ExactValues frame N D → (i : ℕ) → i < order frame → let k = last_step_of frame in
    radix_of frame ^ digits_asked frame * nat_abs (N i *ℤ pos (radix_of frame ^ k) -ℤ pos D *ℤ y i *ℤ pos (factor_of frame))
    < D * radix_of frame ^ k

-- ---- the state after the calls

abbrev pub after : List ℕ → List Call → State
after frame calls = run (loaded frame).state calls

-- the additions that the calls have counted
abbrev pub additions_made : List ℕ → List Call → ℕ
additions_made frame calls = calls_additions (loaded frame).state calls

-- the digit of step j and row i that it holds
abbrev pub held_digit : (frame : List ℕ) (calls : List Call) (j i : ℕ) → ℤ
held_digit frame calls = digits_of (after frame calls).digits

-- Y: the whole number that its first k digits of row i spell
abbrev pub Y : (frame : List ℕ) (calls : List Call) (k i : ℕ) → ℤ
Y frame calls = reading (radix_of frame) (held_digit frame calls)

-- ---- demand 3

pub record Accurate (frame : List ℕ) (calls : List Call) : Type 0 where
  -- the steps made are the smaller of the job's last step and the sum of the budgets
  pub steps_made : (after frame calls).k ≡ smaller (last_step_of frame) (budgets calls)
  -- the digits are those of the steps on the frame's numbers, and 0 past the steps made
  pub digits : (j i : ℕ) → 1 ≤ j → j ≤ (after frame calls).k → i < order frame → held_digit frame calls j i ≡ true_digit frame j i
  pub later_digits : (j i : ℕ) → (after frame calls).k < j → j ≤ all_steps → i < order frame → held_digit frame calls j i ≡ pos 0
  -- the additions that the calls counted in all are those of the steps made
  pub additions_counted : additions_made frame calls ≡ job_additions frame (after frame calls).k
  -- after k steps they are at most k - 1 times the entries of G other than 0, and so at most k - 1 times
  -- n - 1 for a polynomial and 2 (n - 1) for a rational curve or a sum of quotients; after 0 steps there are
  -- none
  pub additions_most : additions_made frame calls ≤ ((after frame calls).k - 1) * entries (order frame) (G frame)
  pub additions_by_kind : additions_made frame calls ≤ ((after frame calls).k - 1) * most_entries (kind frame) (order frame)
  -- the scale that the state holds, and hands on with every reading, is the frame's
  pub scale_held : (after frame calls).scale ≡ scale_of frame
  -- for every k up to the steps made, every exact value and every row: (r - 1) |N r^k - D Y r^s| ≤ p D r^s
  pub near : (k : ℕ) → k ≤ (after frame calls).k → (N : ℕ → ℤ) (D : ℕ) → 0 < D → ExactValues frame N D → (i : ℕ) → i < order frame →
      (radix_of frame - 1) * nat_abs (N i *ℤ pos (radix_of frame ^ k) -ℤ pos D *ℤ Y frame calls k i *ℤ pos (factor_of frame))
      ≤ largest_digit frame * D * factor_of frame
  -- the digit count of the last readings, once all m + 1 + s steps are made
  pub digit_count : (after frame calls).k ≡ last_step_of frame → DigitCount frame (Y frame calls (last_step_of frame))
  -- row 1's exact value is that of the curve, for the kinds that are curves: polynomials, rational curves and
  -- sums of quotients
  pub curve : has_value (kind frame) ≡ true → ExactCurve frame
  -- a readings call on the way hands out each row's Y at the steps made by then, and nothing if it is refused
  pub handed_out : (before rest : List Call) (out : List ℤ) →
      calls ≡ before ++ (readings out ∷ rest) → readings_refusal (after frame before) (length out) ≡ 0 → (i : ℕ) → i < order frame →
      at (readings_list (after frame before) out) i ≡ reading (radix_of frame) (true_digit frame) (smaller (last_step_of frame) (budgets before)) i
  pub nothing_out : (before rest : List Call) (out : List ℤ) →
      calls ≡ before ++ (readings out ∷ rest) → 0 < readings_refusal (after frame before) (length out) → readings_list (after frame before) out ≡ out
  -- r^k (b - A y) = z + G d, with the divided b, y = Y / r^k and d the digits of step k, in units of
  -- 1/(u r^s), whether or not a solution is named
  pub identity : (i : ℕ) → i < order frame → let k = (after frame calls).k in
      pos (radix_of frame ^ k) *ℤ divided_b frame i
      -ℤ (pos (inner_unit_of frame) *ℤ Y frame calls k i -ℤ dot (order frame) (inner_G frame i) (Y frame calls k))
      ≡ at (after frame calls).z i +ℤ dot (order frame) (inner_G frame i) (held_digit frame calls k)

-- Every accepted frame is accurate after every list of calls. `accurate` of proofs/Demand3.antt proves it.
abbrev pub EveryFrameAccurate : Type 0
EveryFrameAccurate = (frame : List ℕ) → frame_refusal frame ≡ 0 → (calls : List Call) → Accurate frame calls
