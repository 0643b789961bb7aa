-- The calls (document 01, "Calls"): load, advance and readings, as functions of all that goes in. Their
-- contracts are equalities with these.
use mathlib.Core.{Bool.Bool, Bool.cond, List.List, List.[], List.◌∷◌, List.◌++◌}
use Rattle.std.specs.Prelude.{ℕ, ◌-◌, Result, Ok, Err}
use lib.{Dec.ltb, Dec.leb, Dec.eqb, IntN.ℤ, ListN.length, ListN.drop}
use Rattle.integers.specs.Flat.{list_from}
use Rattle.job.specs.{Header.radix, Refusal.Check, Refusal.first_refusal, Refused.number_of, Refused.row_of, declared.refusals.Refused.Refused}
use Rattle.frame.specs.Frame.{frame_refusal, frame_row, frame_numbers}
use Rattle.header.specs.Header.{header_of}
use Rattle.recurrence.specs.Recurrence.{reading}
use Rattle.state.specs.{State.digits_of, State.idle_state, State.fresh, State.state_checks, State.state_last, declared.State.State}
use Rattle.evaluator.specs.declared.Steps.{Steps}
use Rattle.stepping.specs.Steps.{steps, steps_additions}

-- ---- load: refused as the frame is, 1 to 8 and 15

-- what it answers in document 01's numbers: a refusal number, 0 where there is none, the row given with it, and
-- the state
pub record Loaded : Type 0 where
  pub refusal : ℕ
  pub row : ℕ
  pub state : State

-- what its result says in these numbers; with a refusal the state is the idle one
abbrev pub load_answer : Result State Refused → Loaded
load_answer (Ok s) = record { refusal = 0; row = 0; state = s }
load_answer (Err e) = record { refusal = number_of e; row = row_of e; state = idle_state }

unfoldable pub loaded : List ℕ → Loaded
loaded s =
    record {
      refusal = frame_refusal s;
      row = frame_row (frame_refusal s) (header_of s) (frame_numbers s);
      state = cond (eqb (frame_refusal s) 0) (fresh (header_of s) (frame_numbers s)) idle_state;
    }

-- ---- advance: refused by 20, 24, 22, 21

-- 22
abbrev pub no_budget : ℕ → Bool
no_budget budget = eqb budget 0

-- 21
abbrev pub all_made : State → Bool
all_made s = leb (state_last s) s.k

unfoldable pub advance_checks : State → ℕ → List Check
advance_checks s budget = state_checks s ++ ((22, no_budget budget) ∷ (21, all_made s) ∷ [])

abbrev pub advance_refusal : State → ℕ → ℕ
advance_refusal s budget = first_refusal (advance_checks s budget)

abbrev pub smaller : ℕ → ℕ → ℕ
smaller a b = cond (leb a b) a b

-- as many steps as the budget allows and as are left, 0 with a refusal
unfoldable pub steps_made : State → ℕ → ℕ
steps_made s budget = cond (eqb (advance_refusal s budget) 0) (smaller budget (state_last s - s.k)) 0

-- what it answers in document 01's numbers: a refusal number, 0 where there is none, the steps made, their
-- additions, and the state
pub record Advanced : Type 0 where
  pub refusal : ℕ
  pub made : ℕ
  pub additions : ℕ
  pub state : State

-- what its result says in these numbers
abbrev pub advance_answer : State × Result Steps Refused → Advanced
advance_answer (s, Ok d) = record { refusal = 0; made = d.made; additions = d.additions; state = s }
advance_answer (s, Err e) = record { refusal = number_of e; made = 0; additions = 0; state = s }

-- with a refusal, 0 steps and no addition: the state as it went in
unfoldable pub advanced : State → ℕ → Advanced
advanced s budget =
    record {
      refusal = advance_refusal s budget;
      made = steps_made s budget;
      additions = steps_additions s (steps_made s budget);
      state = steps s (steps_made s budget);
    }

-- ---- readings: refused by 20, 24, 23. The list lent has `room` words

-- the reading of row i at the steps made
abbrev pub state_reading : State → ℕ → ℤ
state_reading s i = reading (radix s.header.code) (digits_of s.digits) s.k i

-- 23
abbrev pub readings_list_too_short : State → ℕ → Bool
readings_list_too_short s room = ltb room s.header.n

unfoldable pub readings_checks : State → ℕ → List Check
readings_checks s room = state_checks s ++ ((23, readings_list_too_short s room) ∷ [])

abbrev pub readings_refusal : State → ℕ → ℕ
readings_refusal s room = first_refusal (readings_checks s room)

-- one reading a row, in row order, and the words past the n-th as they were; with a refusal all words as
-- they were
unfoldable pub readings_list : State → List ℤ → List ℤ
readings_list s out =
    cond (eqb (readings_refusal s (length out)) 0) (list_from 0 s.header.n (state_reading s) ++ drop s.header.n out) out
