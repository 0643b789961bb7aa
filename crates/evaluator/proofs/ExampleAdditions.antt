-- The additions that an advance answers, on case A with an x of 3. G has one entry, in row 1 and column 2,
-- and row 2 has the digits 1, 0, 0, 0, 0: step 2 makes one addition, and no other step makes any. The numbers
-- come out of the statements, from the additions of all steps.
use mathlib.Core.Path.{◌≡◌, refl}
use mathlib.Core.List.{List}
use Prim.Native.Nat.{ℕ, ◌+◌, ◌<◌}
use native.Mathlib.Omega.{arith}
use lib.IntN.{ℤ}
use Rattle.integers.specs.Flat.{entry, list_from, stores}
use Rattle.integers.specs.Sum.{dot, weight, sum, total}
use Rattle.additions.specs.Additions.{step_additions, additions}
use Rattle.system.specs.Rows.{first_row_from}
use Rattle.system.specs.System.{curve_entry, matrix, right_side}
use Rattle.scale.specs.Scale.{every}
use Rattle.stepping.specs.Steps.{stepped_digits, stepped_residuals, steps, one_step}
use Rattle.recurrence.specs.Recurrence.{shifted, next_digit, next_residual, select, rounded, estimate, cut_down, digit_size}
use Rattle.state.specs.State.{digits_of, beyond, fresh, breaks_limit}
use Rattle.state.specs.declared.State.{State}
use Rattle.evaluator.specs.Evaluator.{advanced, advance_checks, steps_made}
use Rattle.evaluator.specs.Theorems.{RefusedAdvance, AdditionsGrow}
use Rattle.evaluator.proofs.ExamplePastOrder.{job_A}
use Rattle.evaluator.proofs.Theorems.{refused-advance}
use Rattle.evaluator.proofs.Additions.{additions_grow}

-- the job after its first step, and after its second
abbrev after_1 : State
after_1 = (advanced job_A 1).state

abbrev after_2 : State
after_2 = (advanced after_1 1).state

-- all additions of so many steps, in the digits of a state
abbrev all : State → ℕ → ℕ
all s k = additions 2 (entry job_A.g) (digits_of s.digits) k

-- ---- what the definitions give: of 1, 2 and all 5 steps

totals : (all after_1 1 ≡ 0) × (all after_2 1 ≡ 0) × (all after_2 2 ≡ 1) × (all (advanced after_2 9).state 2 ≡ 1) × (all (advanced after_2 9).state 5 ≡ 1)
unfolding job_A additions step_additions advanced advance_checks steps_made steps one_step fresh breaks_limit beyond curve_entry matrix right_side first_row_from every weight total dot sum list_from stores stepped_digits stepped_residuals shifted next_digit next_residual select rounded estimate cut_down digit_size
totals = (refl, refl, refl, refl, refl)

-- orders, matrices and steps made
here : (job_A.header.n ≡ 2) × (after_1.header.n ≡ 2) × (after_2.header.n ≡ 2) × (after_1.g ≡ job_A.g) × (after_2.g ≡ job_A.g)
    × (job_A.k ≡ 0) × (after_1.k ≡ 1) × (after_2.k ≡ 2) × ((advanced after_2 9).state.k ≡ 5)
unfolding job_A advanced advance_checks steps_made steps one_step fresh breaks_limit beyond curve_entry matrix right_side first_row_from every weight total dot sum list_from stores stepped_digits stepped_residuals shifted next_digit next_residual select rounded estimate cut_down digit_size
here = (refl, refl, refl, refl, refl, refl, refl, refl, refl)

refused_22 : 0 < (advanced job_A 0).refusal
unfolding job_A advanced advance_checks fresh breaks_limit beyond curve_entry matrix right_side first_row_from every weight total list_from
refused_22 = omega arith

-- ---- and the statements: no call counts the additions of another

-- the statement of a state of order n with the matrix g, from j steps to k
from : AdditionsGrow → (s : State) (budget n j k : ℕ) (g : List ℤ) → s.header.n ≡ n → s.g ≡ g → s.k ≡ j → (advanced s budget).state.k ≡ k
    → let d = digits_of (advanced s budget).state.digits in additions n (entry g) d k ≡ additions n (entry g) d j + (advanced s budget).additions
from grow s budget n j k g a b c e = rw (← a, ← b, ← c, ← e) (grow s budget)

grown : AdditionsGrow → ((advanced job_A 1).additions ≡ 0) × ((advanced after_1 1).additions ≡ 1) × ((advanced after_2 9).additions ≡ 0)
grown grow = (
  omega (arith, from grow job_A 1 2 0 1 job_A.g here.0 refl here.5 here.6, totals.0),
  omega (arith, from grow after_1 1 2 1 2 job_A.g here.1 here.3 here.6 here.7, totals.1, totals.2),
  omega (arith, from grow after_2 9 2 2 5 job_A.g here.2 here.4 here.7 here.8, totals.3, totals.4),
)

refused_none : RefusedAdvance → (advanced job_A 0).additions ≡ 0
refused_none refused = (refused job_A 0 refused_22).2

-- the statements are proved
pub additions_A : ((advanced after_1 1).additions ≡ 1) × ((advanced after_2 9).additions ≡ 0) × ((advanced job_A 0).additions ≡ 0)
additions_A = let x = grown additions_grow in (x.1, x.2, refused_none refused-advance)
