-- What is promised of load, advance and readings, over the definitions of Evaluator.antt. The contracts say
-- that the calls answer and leave what these definitions say, so each statement here is one about the
-- calls. The proofs are in proofs/Theorems.antt and proofs/Kept.antt: `refused_load` is one of
-- `RefusedLoad`, and so on.
use mathlib.Core.{Path.◌≡◌, List.List}
use Rattle.std.specs.Prelude.{ℕ, ◌+◌, ◌-◌, ◌<◌, ◌≤◌}
use lib.{IntN.ℤ, ListN.length, ListN.take, ListN.drop}
use Rattle.integers.specs.Flat.{entry, list_from}
use Rattle.additions.specs.Additions.{additions}
use Rattle.job.specs.Refusal.{Decides, first_refusal}
use Rattle.header.specs.Header.{header_of}
use Rattle.frame.specs.Frame.{frame_numbers, frame_checks, frame_refusal}
use Rattle.state.specs.{State.digits_of, State.idle_state, State.fresh, State.state_checks, State.state_last, declared.State.State}
use Rattle.stepping.specs.Steps.{steps}
use Rattle.evaluator.specs.Evaluator.{loaded, smaller, advance_checks, advanced, state_reading, readings_checks, readings_refusal, readings_list}

-- ---- demand 1: refused by number c exactly when c's condition holds and none before it does, accepted
-- exactly when no condition holds

abbrev pub LoadDecided : Type 0
LoadDecided = (s : List ℕ) → Decides (frame_checks s) (loaded s).refusal

abbrev pub AdvanceDecided : Type 0
AdvanceDecided = (s : State) (budget : ℕ) → Decides (advance_checks s budget) (advanced s budget).refusal

abbrev pub ReadingsDecided : Type 0
ReadingsDecided = (s : State) (room : ℕ) → Decides (readings_checks s room) (readings_refusal s room)

-- ---- demand 1: a refusal leaves all as it was

-- a refused load gives the idle state
abbrev pub RefusedLoad : Type 0
RefusedLoad = (s : List ℕ) → 0 < (loaded s).refusal → (loaded s).state ≡ idle_state

-- a refused advance gives the state back and counts 0
abbrev pub RefusedAdvance : Type 0
RefusedAdvance =
    (s : State) (budget : ℕ) → 0 < (advanced s budget).refusal →
    ((advanced s budget).state ≡ s) × ((advanced s budget).made ≡ 0) × ((advanced s budget).additions ≡ 0)

-- a refused readings call leaves the list
abbrev pub RefusedReadings : Type 0
RefusedReadings = (s : State) (out : List ℤ) → 0 < readings_refusal s (length out) → readings_list s out ≡ out

-- ---- demand 2: what the calls do

-- load makes the job of the frame's header and numbers, with 0 steps made
abbrev pub AcceptedLoad : Type 0
AcceptedLoad = (s : List ℕ) → (loaded s).refusal ≡ 0 → (loaded s).state ≡ fresh (header_of s) (frame_numbers s)

-- the count that advance answers is the growth of k, whether or not there is a refusal
abbrev pub MadeGrows : Type 0
MadeGrows = (s : State) (budget : ℕ) → (advanced s budget).state.k ≡ s.k + (advanced s budget).made

-- it is as many steps as the budget allows and as are left
abbrev pub MadeSmaller : Type 0
MadeSmaller = (s : State) (budget : ℕ) → (advanced s budget).refusal ≡ 0 → (advanced s budget).made ≡ smaller budget (state_last s - s.k)

-- The additions that it answers are by how much those of all steps grow, in the digits that the state comes
-- back with, whether or not there is a refusal: so each step's count once, and to the call that makes it.
abbrev pub AdditionsGrow : Type 0
AdditionsGrow =
    (s : State) (budget : ℕ) → let t = (advanced s budget).state in let all = additions s.header.n (entry s.g) (digits_of t.digits) in
    all t.k ≡ all s.k + (advanced s budget).additions

-- readings gives one reading a row, in row order
abbrev pub ReadingsFront : Type 0
ReadingsFront =
    (s : State) (out : List ℤ) → readings_refusal s (length out) ≡ 0 →
    take s.header.n (readings_list s out) ≡ list_from 0 s.header.n (state_reading s)

-- words past the n-th keep their values, whether or not there is a refusal
abbrev pub ReadingsPast : Type 0
ReadingsPast = (s : State) (out : List ℤ) → drop s.header.n (readings_list s out) ≡ drop s.header.n out

-- ---- states of a loaded job pass 20 and 24

-- a state that passes 20 and 24 does so after advance too,
abbrev pub AdvancedPasses : Type 0
AdvancedPasses = (s : State) (budget : ℕ) → first_refusal (state_checks s) ≡ 0 → first_refusal (state_checks (advanced s budget).state) ≡ 0

-- and so does every state that steps make of an accepted frame
abbrev pub LoadedPasses : Type 0
LoadedPasses =
    (s : List ℕ) → frame_refusal s ≡ 0 → (j : ℕ) → j ≤ state_last (fresh (header_of s) (frame_numbers s)) →
    first_refusal (state_checks (steps (fresh (header_of s) (frame_numbers s)) j)) ≡ 0
