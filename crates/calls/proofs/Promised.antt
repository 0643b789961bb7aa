-- What `evaluate` promises, over the variables of its code: of a refused frame, and of an accepted one.
use mathlib.Core.Path.{◌≡◌, refl, sym, ap, ◌∙◌}
use mathlib.Core.Bool.{true}
use mathlib.Core.List.{List, [], ◌∷◌, ◌++◌}
use Prim.Native.Nat.{ℕ, ◌<◌, ◌≤◌}
use native.Mathlib.Omega.{arith}
use lib.IntN.{ℤ, pos}
use lib.ListN.{length, drop, replicate}
use Rattle.integers.specs.Flat.{at, list_from}
use Rattle.job.specs.Header.{radix}
use Rattle.job.proofs.Limits.{last-small}
use Rattle.scale.specs.Scale.{job_scale}
use Rattle.job.specs.Header.{Limits}
use Rattle.job.specs.Rules.{ScaleLimits}
use Rattle.job.specs.Refusal.{first_refusal}
use Rattle.job.specs.declared.Header.{Header}
use Rattle.frame.specs.Frame.{frame_refusal, frame_numbers}
use Rattle.header.specs.Header.{header_of}
use Rattle.recurrence.specs.Recurrence.{reading}
use Rattle.state.specs.State.{digits_of, fresh, state_checks, state_last, PassesLimits}
use Rattle.state.specs.Inner.{state_of}
use Rattle.state.specs.declared.State.{State}
use Rattle.evaluator.specs.Evaluator.{loaded, smaller, state_reading, readings_refusal, readings_list}
use Rattle.stepping.specs.Steps.{steps, steps_additions}
use Rattle.evaluator.specs.Evaluator.{Loaded}
use Rattle.stepping.specs.Inner.{MayStep}
use Rattle.evaluator.proofs.Kept.{fresh_start, loaded-passes-limits, loaded-passes}
use Rattle.stepping.proofs.Kept.{steps_pass_limits}
use Rattle.evaluator.specs.Inner.{MayReadRows}
use Rattle.evaluator.proofs.Calls.{readings_refuses, readings_writes, room_decides, reads_none_decides}
use Rattle.job.specs.declared.refusals.Refused.TheVariants.{TooLittleRoom}
use Rattle.stepping.proofs.Steps.{steps-header, steps-scale, steps_k}
use Rattle.evaluator.proofs.Horner.{may_read_rows}
use Rattle.stepping.proofs.Stepping.{fresh_whole}
use Rattle.evaluator.proofs.Theorems.{accepted_load}
use Rattle.accuracy.specs.Accuracy.{order, radix_of, last_step_of, true_digit, DigitCount, after, run, budgets, calls_additions, advances, readings}
use Rattle.calls.specs.Promise.{Promise}
use Rattle.accuracy.proofs.Demand3.{counted, accurate}
use Rattle.calls.proofs.Performed.{taken}
use Rattle.accuracy.proofs.Runs.{smaller-left, run_all, counted_all, allowed_most}

-- a state's digits and readings, by its header, its steps and its digits
readable_of : (t : State) {h : Header} {k : ℕ} {ds : List ℤ} → t.header ≡ h → t.k ≡ k → ds ≡ t.digits → PassesLimits t → MayReadRows h k ds
readable_of t eh ek ed p = rw (← eh, ← ek, ed) (may_read_rows p)

readings_of : (t : State) {h : Header} {k : ℕ} {ds final : List ℤ} (given : List ℤ) → t.header ≡ h → t.k ≡ k → ds ≡ t.digits
    → final ≡ list_from 0 h.n (reading (radix h.code) (digits_of ds) k) ++ drop h.n given
    → final ≡ list_from 0 t.header.n (state_reading t) ++ drop t.header.n given
readings_of t given eh ek ed el = rw (eh, ek, ← ed) el

-- the words that readings leave once the budgets have made all steps are the last readings
counted_words : (frame list : List ℕ) (given final : List ℤ) → frame_refusal frame ≡ 0 → final ≡ readings_list (after frame (advances list)) given
    → last_step_of frame ≤ budgets (advances list) → order frame ≤ length given → DigitCount frame (at final)
counted_words frame list given final ok el all room N D some exact i c = rw (word i c) (counted frame ok N D some exact i c)
  where
    word : (i : ℕ) → i < order frame → at final i ≡ reading (radix_of frame) (true_digit frame) (last_step_of frame) i
    word i c =
        rw (el, ← smaller-left (last_step_of frame) (budgets (advances list)) all)
        ((accurate frame ok (advances list ++ (readings given ∷ []))).handed_out (advances list) [] given refl (taken frame ok (advances list) (length given) room) i c)

module _ (frame list : List ℕ) (given : List ℤ) (l : Loaded) (e : l ≡ loaded frame) where
  refusal_is : l.refusal ≡ frame_refusal frame
  unfolding loaded
  refusal_is = ap (λ (x : Loaded). x.refusal) e

  pub promise-refused : 0 < l.refusal → Promise frame list given (record { refusal = l.refusal; row = l.row; scale = 0; made = 0; additions = 0 }) given
  unfolding loaded
  promise-refused h =
      record {
        refused = λ g. (rw e, refl);
        accepted = λ g. absurd (omega (arith, refusal_is));
        accurate = λ g. absurd (omega (arith, refusal_is));
        digit_count = λ g. absurd (omega (arith, refusal_is));
      }

  pub promise-accepted : (t : State) (c a : ℕ) (final : List ℤ) → l.refusal ≤ 0 → t ≡ run l.state (advances list) → a ≡ calls_additions l.state (advances list)
      → c ≡ readings_refusal t (length given) → final ≡ readings_list t given
      → Promise frame list given (record { refusal = c; row = 0; scale = t.scale; made = t.k; additions = a }) final
  promise-accepted t c a final h et ea ec el =
      let ok : frame_refusal frame ≡ 0 = omega (arith, refusal_is) in
      let f : t ≡ after frame (advances list) = et ∙ ap (λ (x : Loaded). run x.state (advances list)) e in
      record {
        refused = λ g. absurd (omega arith);
        accepted = λ g. rw (← f) (rw (ec, ea, e), el);
        accurate = λ g. accurate frame ok (advances list ++ (readings given ∷ []));
        digit_count = λ g. counted_words frame list given final ok (el ∙ ap (λ (s : State). readings_list s given) f);
      }

  -- an accepted frame's job, which load has made
  module _ (h : l.refusal ≤ 0) where
    ok : frame_refusal frame ≡ 0
    ok = omega (arith, refusal_is)

    abbrev job : State
    job = l.state

    job_is : job ≡ fresh (header_of frame) (frame_numbers frame)
    job_is = ap (λ (x : Loaded). x.state) e ∙ accepted_load frame (sym (ap (λ (x : Loaded). x.refusal) e) ∙ refusal_is ∙ ok)

    job_start : (job.busy ≡ true) × (job.k ≡ 0) × (job.header ≡ header_of frame) × (job.scale ≡ job_scale (header_of frame) (frame_numbers frame))
    job_start = rw job_is (fresh_start (header_of frame) (frame_numbers frame))

    job_sound : PassesLimits job
    job_sound = rw job_is (loaded-passes-limits frame ok)

    pub job_last-small : state_last job ≤ 60
    job_last-small = last-small job.header job.scale job_sound.scaled

    -- its last step can be asked for
    pub job_limits : Limits job.header × ScaleLimits job.header job.scale
    job_limits = (job_sound.limits, job_sound.scaled)

    -- put together from its header and its arrays, with no digit but 0
    no_digits : replicate 960 (pos 0) ≡ job.digits
    unfolding fresh
    no_digits = rw job_is refl

    whole : state_of true job.header job.scale 0 job.g job.z (replicate 960 (pos 0)) ≡ job
    whole = rw no_digits (fresh_whole job job_start.0 job_start.1)

    passes : (j : ℕ) → j ≤ state_last job → first_refusal (state_checks (steps job j)) ≡ 0
    passes j m = rw job_is (loaded-passes frame ok j (rw job_is at m))

    -- the steps that the budgets allow
    module _ (made : ℕ) (em : made ≡ smaller (state_last job) (budgets (advances list))) where
      made-most : made ≤ state_last job
      made-most = allowed_most (state_last job) made (budgets (advances list)) em

      abbrev done : State
      done = steps job made

      run-made : done ≡ run job (advances list)
      run-made = rw em (sym (run_all job job_start.1 passes (advances list)))

      k_is : done.k ≡ made
      k_is = omega (arith, steps_k job made, job_start.1)

      room : length job.digits ≡ 960
      unfolding fresh
      room = rw job_is refl

      pub steppable : MayStep (state_of true job.header job.scale 0 job.g job.z (replicate 960 (pos 0))) made
      steppable = rw whole (record { passes = job_sound; room = room; left = omega (arith, made-most, job_start.1) })

      -- what `make_steps` answers and leaves: the additions, in `a`, are those of the advances,
      module _ (a : ℕ) (ea : a ≡ steps_additions (state_of true job.header job.scale 0 job.g job.z (replicate 960 (pos 0))) made) where
        additions_are : a ≡ calls_additions job (advances list)
        additions_are = (rw (whole, em) at ea) ∙ sym (counted_all job job_start.1 passes (advances list))

        with_made : (c : ℕ) (final : List ℤ) → c ≡ readings_refusal done (length given) → final ≡ readings_list done given
            → Promise frame list given (record { refusal = c; row = 0; scale = job.scale; made = made; additions = a }) final
        with_made c final ec el = rw (steps-scale job made, k_is) at (promise-accepted done c a final h run-made additions_are ec el)

        pub promise_short : length given < job.header.n → Promise frame list given (record { refusal = 23; row = 0; scale = job.scale; made = made; additions = a }) given
        promise_short m =
            let r = room_decides done (length given) (sym (passes made made-most)) (rw (steps-header job made) m) in
            with_made 23 given r (readings_refuses done given TooLittleRoom r)

      -- and the digits, in `ds`, can be read
      module _ (ds : List ℤ) (ed : ds ≡ (steps (state_of true job.header job.scale 0 job.g job.z (replicate 960 (pos 0))) made).digits) where
        digits_are : ds ≡ done.digits
        digits_are = rw whole at ed

        pub rows_readable : MayReadRows job.header made ds
        rows_readable =
            readable_of done (steps-header job made) k_is digits_are (steps_pass_limits job made job_sound (omega (arith, made-most, job_start.1)))

        pub promise_done : (a : ℕ) → a ≡ steps_additions (state_of true job.header job.scale 0 job.g job.z (replicate 960 (pos 0))) made
            → (final : List ℤ) → job.header.n ≤ length given
            → final ≡ list_from 0 job.header.n (reading (radix job.header.code) (digits_of ds) made) ++ drop job.header.n given
            → Promise frame list given (record { refusal = 0; row = 0; scale = job.scale; made = made; additions = a }) final
        promise_done a ea final m el =
            let r = reads_none_decides done (length given) (sym (passes made made-most)) (rw (steps-header job made) m) in
            with_made a ea 0 final r (readings_writes done given r final (readings_of done given (steps-header job made) k_is digits_are el))
