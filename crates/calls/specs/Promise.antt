-- What `evaluate` of src/lib.rt ensures: its answer and every word of its list are the definitions', and
-- demand 3 holds of the calls that it stands for.
use mathlib.Core.{Path.◌≡◌, List.List, List.[], List.◌∷◌, List.◌++◌}
use Rattle.std.specs.Prelude.{ℕ, ◌<◌, ◌≤◌, Option, None, Some}
use lib.{IntN.ℤ, ListN.length}
use Rattle.integers.specs.Flat.{at}
use Rattle.frame.specs.Frame.{frame_refusal, frame_row, frame_numbers}
use Rattle.header.specs.Header.{header_of}
use Rattle.evaluator.specs.Evaluator.{readings_refusal, readings_list}
use Rattle.accuracy.specs.Accuracy.{order, last_step_of, DigitCount, after, additions_made, Accurate, readings, budgets, advances}
use Rattle.job.specs.{Refused.number_of, Refused.row_of, declared.refusals.Refused.Refused}
use Rattle.calls.specs.declared.Evaluation.{Evaluation}

-- the answer in document 01's numbers: a refusal number, 0 where there is none, the row given with it, the scale,
-- the steps made, and their additions
pub record Evaluated : Type 0 where
  pub refusal : ℕ
  pub row : ℕ
  pub scale : ℕ
  pub made : ℕ
  pub additions : ℕ

-- what the code's answer says in these numbers
abbrev pub given_number : Option Refused → ℕ
given_number None = 0
given_number (Some e) = number_of e

abbrev pub given_row : Option Refused → ℕ
given_row None = 0
given_row (Some e) = row_of e

abbrev pub evaluated : Evaluation → Evaluated
evaluated r =
    record {
      refusal = given_number r.refusal;
      row = given_row r.refusal;
      scale = r.scale;
      made = r.made;
      additions = r.additions;
    }

-- the answer to a refused frame: its number and row, no step made and no addition
abbrev pub refused_evaluated : List ℕ → Evaluated
refused_evaluated frame =
    record {
      refusal = frame_refusal frame;
      row = frame_row (frame_refusal frame) (header_of frame) (frame_numbers frame);
      scale = 0;
      made = 0;
      additions = 0;
    }

-- `list` are the budgets, `given` is the list lent, `final` what is in it at the end
pub record Promise (frame list : List ℕ) (given : List ℤ) (r : Evaluated) (final : List ℤ) : Type 0 where
  -- a refused frame: nothing is handed out
  pub refused : 0 < frame_refusal frame → (r ≡ refused_evaluated frame) × (final ≡ given)
  -- an accepted one: the scale, the steps made and their additions, and the readings as the call of readings
  -- hands them out
  pub accepted : frame_refusal frame ≡ 0 → let s = after frame (advances list) in
      (r ≡ record { refusal = readings_refusal s (length given); row = 0; scale = s.scale; made = s.k; additions = additions_made frame (advances list) }) × (final ≡ readings_list s given)
  -- and demand 3
  pub accurate : frame_refusal frame ≡ 0 → Accurate frame (advances list ++ (readings given ∷ []))
  -- where the budgets make all steps and there is a word for each row, the digit count of these words
  pub digit_count : frame_refusal frame ≡ 0 → last_step_of frame ≤ budgets (advances list) → order frame ≤ length given → DigitCount frame (at final)
