-- Lists of calls as words, two words a call, with one list lent for all the readings (document 01, "Calls"):
-- each readings call gets the next part of it. `Performed` is what `perform` of src/one_by_one.rt ensures.
use mathlib.Core.{Path.◌≡◌, List.List, List.[], List.◌∷◌, List.◌++◌}
use Rattle.std.specs.Prelude.{ℕ, zero, suc, ◌+◌, ◌<◌, ◌≤◌, Result, Ok, Err}
use lib.{IntN.ℤ, ListN.length, ListN.take, ListN.drop}
use Rattle.integers.specs.Flat.{at}
use Rattle.frame.specs.Frame.{frame_refusal}
use Rattle.recurrence.specs.Recurrence.{reading}
use Rattle.state.specs.declared.State.{State}
use Rattle.evaluator.specs.Evaluator.{loaded, smaller, readings_list}
use Rattle.accuracy.specs.Accuracy.{order, radix_of, last_step_of, true_digit, after, additions_made, Accurate, Call, advance, readings, state_after, budgets}
use Rattle.calls.specs.Promise.{Evaluated, refused_evaluated}
use Rattle.job.specs.declared.refusals.Refused.{Refused}
use Rattle.evaluator.specs.declared.Steps.{Steps}

-- ---- the calls that words name; `given` is what is left of the list lent

-- 0 and a budget is advance. Any other word and a room is readings: its part is the next `room` words, or all
-- that are left where fewer are
abbrev pub call_of : ℕ → ℕ → List ℤ → Call
call_of zero budget given = advance budget
call_of (suc kind) room given = readings (take room given)

-- the additions that an advance counted, 0 where it was refused
abbrev pub counted : Result Steps Refused → ℕ
counted (Ok d) = d.additions
counted (Err e) = 0

-- how many words of the list a call gets
abbrev pub room_of : Call → ℕ
room_of (advance budget) = 0
room_of (readings part) = length part

-- each two words are a call; an odd word at the end is none
unfoldable pub calls_of : List ℕ → List ℤ → List Call
calls_of [] given = []
calls_of (kind ∷ []) given = []
calls_of (kind ∷ value ∷ words) given = call_of kind value given ∷ calls_of words (drop (room_of (call_of kind value given)) given)

-- ---- what the calls leave in the list

-- how many words of it calls get in all; the part of a readings call begins past those of the calls before it
unfoldable pub room_of_all : List Call → ℕ
room_of_all [] = 0
room_of_all (c ∷ cs) = room_of c + room_of_all cs

-- a call's part after it
abbrev pub part_after : State → Call → List ℤ
part_after s (advance budget) = []
part_after s (readings part) = readings_list s part

-- the parts after the calls, side by side: each call gets the state that the call before gave back or left
unfoldable pub parts_after : State → List Call → List ℤ
parts_after s [] = []
parts_after s (c ∷ cs) = part_after s c ++ parts_after (state_after s c) cs

-- the whole list after the calls: the words past the last part are as they were
abbrev pub list_after : State → List Call → List ℤ → List ℤ
list_after s calls given = parts_after s calls ++ drop (room_of_all calls) given

-- no readings call among them hands one of its n readings to word j
abbrev pub Untouched : ℕ → List Call → ℕ → Type 0
Untouched n calls j = (before rest : List Call) (part : List ℤ) → calls ≡ before ++ (readings part ∷ rest) →
    n ≤ length part → room_of_all before ≤ j → j < room_of_all before + n → ⊥

-- ---- the promise: `given` is the list lent, `final` what is in it at the end

pub record Performed (frame words : List ℕ) (given : List ℤ) (r : Evaluated) (final : List ℤ) : Type 0 where
  -- a refused frame: no call is made and nothing handed out
  pub refused : 0 < frame_refusal frame → (r ≡ refused_evaluated frame) × (final ≡ given)
  -- an accepted one: the scale, the steps that the calls made in all and the additions that they counted, and
  -- the list as the calls leave it
  pub accepted : frame_refusal frame ≡ 0 → let calls = calls_of words given in
      (r ≡ record { refusal = 0; row = 0; scale = (after frame calls).scale; made = (after frame calls).k; additions = additions_made frame calls })
      × (final ≡ list_after (loaded frame).state calls given)
  -- demand 3 of just these calls
  pub accurate : frame_refusal frame ≡ 0 → Accurate frame (calls_of words given)
  -- and of every word handed out: a readings call whose part has a word for each row leaves in it each row's
  -- reading at the steps made by then
  pub handed_out : frame_refusal frame ≡ 0 → (before rest : List Call) (part : List ℤ) →
      calls_of words given ≡ before ++ (readings part ∷ rest) → order frame ≤ length part → (i : ℕ) → i < order frame →
      at final (room_of_all before + i) ≡ reading (radix_of frame) (true_digit frame) (smaller (last_step_of frame) (budgets before)) i
  -- every other word is as it was
  pub kept : frame_refusal frame ≡ 0 → (j : ℕ) → Untouched (order frame) (calls_of words given) j → at final j ≡ at given j
