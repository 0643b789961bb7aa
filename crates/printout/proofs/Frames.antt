-- Whole frames: what load and advance make of one, and that the lines put are its text. Cited by the proof
-- of `put_frame_text`.
use mathlib.Core.Path.{◌≡◌, refl, sym, ap, ◌∙◌}
use mathlib.Core.List.{List, [], ◌∷◌}
use mathlib.Core.Logic.{◌⊎◌, inl, inr}
use Prim.Native.Nat.{ℕ, ◌-◌, ◌<◌, ◌≤◌}
use native.Mathlib.Omega.{arith}
use borrow.Author.Tests.{eq-eqb, ne_eqb, le-leb, lt-leb}
use Rattle.std.specs.Prelude.{Result, Ok, Err}
use Rattle.integers.proofs.Maximum.{le_or_lt}
use Rattle.job.proofs.Limits.{last-least, last-small}
use Rattle.job.specs.Refusal.{first_refusal}
use Rattle.job.proofs.Refusal.{accepted-before}
use Rattle.job.specs.declared.refusals.Refused.{Refused}
use Rattle.frame.specs.Frame.{frame_refusal, frame_row, frame_numbers}
use Rattle.header.specs.Header.{header_of}
use Rattle.state.specs.State.{fresh, state_checks, state_last, PassesLimits}
use Rattle.state.specs.declared.State.{State}
use Rattle.evaluator.specs.Evaluator.{Loaded, loaded, no_budget, all_made, advance_checks, advance_refusal, smaller, Advanced, advance_answer, advanced}
use Rattle.evaluator.specs.declared.Steps.{Steps}
use Rattle.stepping.specs.Steps.{steps}
use Rattle.evaluator.proofs.Kept.{fresh_start, loaded-passes-limits, loaded-passes}
use Rattle.evaluator.proofs.Theorems.{accepted_load, made-smaller}
use Rattle.text.specs.declared.Page.{Page}
use Rattle.text.specs.Text.{Written}
use Rattle.printout.specs.Printout.{job_text, refused_text, with_all_steps, frame_text}

whole : {page after : Page} (text : List ℕ) {lines : List ℕ} → text ≡ lines → Written page lines after → Written page text after
whole text e p = rw e p

-- ---- a fresh job makes all its steps with a budget of 60

least_all : (m : ℕ) → m ≤ 60 → smaller 60 m ≡ m
least_all m h = by_order (le_or_lt 60 m)
  where
    by_order : (60 ≤ m) ⊎ (m < 60) → smaller 60 m ≡ m
    by_order (inl l) = rw (le-leb 60 m l) (omega arith)
    by_order (inr l) = rw (lt-leb 60 m l)

module _ (t : State) (start : t.k ≡ 0) (p : first_refusal (state_checks t) ≡ 0) (least_steps : 1 ≤ state_last t) (most_steps : state_last t ≤ 60) where
  advances : advance_refusal t 60 ≡ 0
  unfolding advance_checks
  advances = accepted-before (state_checks t) ((22, no_budget 60) ∷ (21, all_made t) ∷ []) tt p ∙ rw (lt-leb (state_last t) t.k (omega arith))

  all_steps-made : (advanced t 60).state ≡ with_all_steps t
  unfolding advanced
  all_steps-made =
      let e : state_last t - t.k ≡ state_last t = omega arith in
      ap (steps t) (rw e at (made-smaller t 60 advances) ∙ least_all (state_last t) most_steps)

-- ---- the state that an advance gives, by whatever result

state_given : (a : State × Result Steps Refused) → (advance_answer a).state ≡ a.0
state_given (t, Ok d) = refl
state_given (t, Err e) = refl

-- ---- l is what load answered

module _ (s : List ℕ) (l : Loaded) (e : l ≡ loaded s) where
  refusal_is : l.refusal ≡ frame_refusal s
  unfolding loaded
  refusal_is = ap (λ (x : Loaded). x.refusal) e

  row_is : l.row ≡ frame_row (frame_refusal s) (header_of s) (frame_numbers s)
  unfolding loaded
  row_is = ap (λ (x : Loaded). x.row) e

  pub refused_whole : {page after : Page} → (l.refusal ≡ 0 → ⊥) → Written page (refused_text l.refusal l.row) after → Written page (frame_text s) after
  unfolding frame_text
  refused_whole h p = whole (frame_text s) (rw (row_is, refusal_is, ne_eqb (frame_refusal s) 0 (rw refusal_is at h))) p

  -- and a is what advance made of it
  module _ (z : l.refusal ≡ 0) (a : State × Result Steps Refused) (f : advance_answer a ≡ advanced l.state 60) where
    accepted : frame_refusal s ≡ 0
    accepted = sym refusal_is ∙ z

    loaded_is : l.state ≡ fresh (header_of s) (frame_numbers s)
    loaded_is = ap (λ (x : Loaded). x.state) e ∙ accepted_load s (sym (ap (λ (x : Loaded). x.refusal) e) ∙ z)

    abbrev job : State
    job = fresh (header_of s) (frame_numbers s)

    limits : PassesLimits job
    limits = loaded-passes-limits s accepted

    passes : first_refusal (state_checks job) ≡ 0
    unfolding steps
    passes = loaded-passes s accepted 0 (omega arith)

    state_is : a.0 ≡ with_all_steps job
    state_is =
        sym (state_given a)
        ∙ ap (λ (x : Advanced). x.state) f
        ∙ ap (λ (t : State). (advanced t 60).state) loaded_is
        ∙ all_steps-made job (fresh_start (header_of s) (frame_numbers s)).1 passes (last-least job.header job.scale limits.scaled limits.limits)
        (last-small job.header job.scale limits.scaled)

    pub printable : first_refusal (state_checks a.0) ≡ 0
    printable = rw state_is (loaded-passes s accepted (state_last job) (omega arith))

    pub accepted_whole : {page after : Page} → Written page (job_text a.0) after → Written page (frame_text s) after
    unfolding frame_text
    accepted_whole p = whole (frame_text s) (rw (eq-eqb (frame_refusal s) 0 accepted, state_is)) p
