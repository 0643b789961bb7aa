-- What `perform` promises, over the variables of its code: of a refused frame, and of an accepted one.
use mathlib.Core.Path.{◌≡◌, refl, ap, ◌∙◌}
use mathlib.Core.List.{List, ◌∷◌, ◌++◌}
use Prim.Native.Nat.{ℕ, ◌+◌, ◌<◌, ◌≤◌}
use native.Mathlib.Omega.{arith}
use lib.IntN.{ℤ}
use lib.ListN.{length}
use Rattle.integers.specs.Flat.{at}
use Rattle.job.specs.Refusal.{first_refusal}
use Rattle.job.specs.declared.Header.{Header}
use Rattle.frame.specs.Frame.{frame_refusal, frame_numbers}
use Rattle.header.specs.Header.{header_of}
use Rattle.state.specs.State.{fresh, state_checks}
use Rattle.evaluator.specs.Evaluator.{loaded, readings_refusal, readings_list}
use Rattle.stepping.specs.Steps.{steps}
use Rattle.evaluator.specs.Evaluator.{Loaded}
use Rattle.evaluator.proofs.Kept.{fresh_start, loaded-passes}
use Rattle.evaluator.proofs.Theorems.{accepted_load}
use Rattle.accuracy.specs.Accuracy.{order, after, Call, readings}
use Rattle.calls.specs.Perform.{calls_of, room_of_all, list_after, Performed}
use Rattle.calls.specs.declared.one_by_one.AllMade.{AllMade}
use Rattle.accuracy.proofs.Demand3.{accurate}
use Rattle.calls.proofs.Parts.{run-header, run-passes, readings-taken, calls-made, at_part, kept_word}

-- ---- an accepted frame: its state after any calls

module _ (frame : List ℕ) (ok : frame_refusal frame ≡ 0) where
  start : (loaded frame).state ≡ fresh (header_of frame) (frame_numbers frame)
  unfolding loaded
  start = accepted_load frame ok

  start-header : (loaded frame).state.header ≡ header_of frame
  start-header = rw start (fresh_start (header_of frame) (frame_numbers frame)).2

  start-passes : first_refusal (state_checks (loaded frame).state) ≡ 0
  unfolding steps
  start-passes = rw start (loaded-passes frame ok 0 (omega arith))

  start-order : (loaded frame).state.header.n ≡ order frame
  start-order = ap (λ (h : Header). h.n) start-header

  -- a readings call whose list has a word for each row is not refused
  pub taken : (before : List Call) (room : ℕ) → order frame ≤ room → readings_refusal (after frame before) room ≡ 0
  taken before room h =
      let e : (after frame before).header ≡ header_of frame = run-header (loaded frame).state before ∙ start-header in
      readings-taken (after frame before) room (run-passes (loaded frame).state before start-passes) (rw e h)

  -- its part holds what it handed out
  in_part : (calls before rest : List Call) (part given final : List ℤ) → final ≡ list_after (loaded frame).state calls given → calls ≡ before ++ (readings part ∷ rest) → (i : ℕ) → i < length part
      → at final (room_of_all before + i) ≡ at (readings_list (after frame before) part) i
  in_part calls before rest part given final el e i h = rw (el, e) (at_part (loaded frame).state before rest part _ i h)

-- ---- the promise

module _ (frame words : List ℕ) (given : List ℤ) (l : Loaded) (e : l ≡ loaded frame) where
  refusal_is : l.refusal ≡ frame_refusal frame
  unfolding loaded
  refusal_is = ap (λ (x : Loaded). x.refusal) e

  pub performed_refused : 0 < l.refusal → Performed frame words given (record { refusal = l.refusal; row = l.row; scale = 0; made = 0; additions = 0 }) given
  unfolding loaded
  performed_refused h =
      record {
        refused = λ g. (rw e, refl);
        accepted = λ g. absurd (omega (arith, refusal_is));
        accurate = λ g. absurd (omega (arith, refusal_is));
        handed_out = λ g. absurd (omega (arith, refusal_is));
        kept = λ g j free. refl;
      }

  -- the state that load gives passes 20 and 24
  pub performed_passes : l.refusal ≤ 0 → first_refusal (state_checks l.state) ≡ 0
  performed_passes h = rw e (start-passes frame (omega (arith, refusal_is)))

  pub performed_accepted : (m : AllMade) (final : List ℤ) → l.refusal ≤ 0
      → m ≡ calls-made l.state (calls_of words given)
      → final ≡ list_after l.state (calls_of words given) given
      → Performed frame words given (record { refusal = 0; row = 0; scale = m.state.scale; made = m.state.k; additions = m.additions }) final
  performed_accepted m final h em el =
      let ok : frame_refusal frame ≡ 0 = omega (arith, refusal_is) in
      let fl : final ≡ list_after (loaded frame).state (calls_of words given) given = el ∙ ap (λ (x : Loaded). list_after x.state (calls_of words given) given) e in
      record {
        refused = λ g. absurd (omega arith);
        accepted = λ g. (rw (em, e), fl);
        accurate = λ g. accurate frame ok (calls_of words given);
        handed_out = λ g before rest part s m i a.
            in_part frame ok (calls_of words given) before rest part given final fl s i (omega arith)
            ∙ (accurate frame ok (calls_of words given)).handed_out before rest part s (taken frame ok before (length part) m) i a;
        kept = λ g j free. rw fl (kept_word (loaded frame).state (order frame) words given j (start-order frame ok) free);
      }
