-- What the calls that load a frame come to, over the variables of the code.
use mathlib.Core.Path.{◌≡◌, refl, sym, ap, ◌∙◌}
use mathlib.Core.List.{List}
use Prim.Native.Nat.{ℕ, ◌<◌, ◌≤◌}
use native.Mathlib.Omega.{arith}
use borrow.Author.Tests.{ne_eqb, eq-eqb}
use lib.IntN.{ℤ}
use lib.ListN.{length}
use Rattle.std.specs.Prelude.{Result, Ok, Err}
use Rattle.job.specs.Header.{count}
use Rattle.job.specs.Refusal.{first_refusal}
use Rattle.job.specs.Refused.{number_of}
use Rattle.job.specs.declared.refusals.Refused.{Refused}
use Rattle.job.proofs.Limits.{order-within}
use Rattle.job.proofs.Numbers.{number_positive}
use Rattle.frame.specs.Frame.{frame_refusal, frame_numbers}
use Rattle.header.specs.Header.{header_of}
use Rattle.frame.proofs.Valid.{accepted-frame}
use Rattle.state.specs.State.{fresh, state_checks}
use Rattle.state.specs.declared.State.{State}
use Rattle.evaluator.specs.Evaluator.{Loaded, Advanced, loaded, advanced, advance_answer}
use Rattle.evaluator.specs.declared.Steps.{Steps}
use Rattle.evaluator.proofs.Kept.{passes_exactly, fresh_start, loaded-passes-limits}
use Rattle.evaluator.proofs.Theorems.{accepted_load, advanced-passes}
use Rattle.running_sums.specs.RunningSums.{sums_written, sums_list, sums_result}
use Rattle.trace.specs.Trace.{Recorded, recorded, record_answer, trace_written, trace_writer_answer, trace_writer_buffer}
use Rattle.emethod_c.specs.Foreign.{answer_of, counted_answer_of, result_answer, check_answer, job_state, job_sums_answer, job_sums_list, job_record, job_trace_answer, job_trace_buffer}
use Rattle.emethod_c.proofs.Packed.{no_additions, plus_none, sums_given, trace_given}

-- the state that an advance gives
state_given : (a : State × Result Steps Refused) → (advance_answer a).state ≡ a.0
state_given (s, Ok d) = refl
state_given (s, Err e) = refl

module _ (frame : List ℕ) (l : Loaded) (e : l ≡ loaded frame) where
  -- of a refused frame
  module _ (h : 0 < l.refusal) where
    some : (loaded frame).refusal ≡ 0 → ⊥
    some z = let f : l.refusal ≡ 0 = ap (λ (x : Loaded). x.refusal) e ∙ z in omega arith

    pub check_refused : (r : ℕ) → r ≡ answer_of l.refusal l.row 0 → r ≡ check_answer frame
    unfolding check_answer
    check_refused r f = let q = ne_eqb (loaded frame).refusal 0 some in f ∙ rw (e, q) (sym (plus_none _))

    pub job_trace-refused : (budget r : ℕ) (out : List ℕ) → r ≡ answer_of l.refusal l.row 0
        → (r ≡ job_trace_answer frame budget (length out)) × (out ≡ job_trace_buffer frame budget out)
    unfolding job_trace_answer job_trace_buffer
    job_trace-refused budget r out f = let q = ne_eqb (loaded frame).refusal 0 some in (f ∙ rw (e, q), rw q)

    pub job_sums-refused : (budget r : ℕ) (words : List ℤ) → r ≡ answer_of l.refusal l.row 0
        → (r ≡ job_sums_answer frame budget (length words)) × (words ≡ job_sums_list frame budget words)
    unfolding job_sums_answer job_sums_list
    job_sums-refused budget r words f = let q = ne_eqb (loaded frame).refusal 0 some in (f ∙ rw (e, q), rw q)

  -- of an accepted one
  module _ (h : l.refusal ≤ 0) where
    none : (loaded frame).refusal ≡ 0
    none = let f : l.refusal ≡ (loaded frame).refusal = ap (λ (x : Loaded). x.refusal) e in omega arith

    header_is : l.state.header ≡ header_of frame
    unfolding fresh
    header_is = ap (λ (x : Loaded). x.state.header) e ∙ ap (λ s. s.header) (accepted_load frame none)

    pub order-kept : (1 ≤ l.state.header.n) × (l.state.header.n ≤ 16)
    unfolding loaded
    order-kept = rw header_is (order-within _ ((accepted-frame frame).0 none).valid.limits)

    pub check_accepted : (c r : ℕ) → c ≡ count l.state.header → r ≡ counted_answer_of 0 0 c 0 l.state.scale → r ≡ check_answer frame
    unfolding check_answer loaded
    check_accepted c r f g =
        let z : frame_refusal frame ≡ 0 = none in
        let s : l.state.scale ≡ (loaded frame).state.scale = ap (λ (x : Loaded). x.state.scale) e in
        g ∙ no_additions c l.state.scale ∙ rw (f, header_is, s, z)

    -- `a` is what `advance` gave
    module _ (budget : ℕ) (a : State × Result Steps Refused) (ea : advance_answer a ≡ advanced l.state budget) where
      state_is : a.0 ≡ job_state frame budget
      state_is = sym (state_given a) ∙ ap (λ (x : Advanced). x.state) ea ∙ ap (λ (x : Loaded). (advanced x.state budget).state) e

      pub job_sums-accepted : (w : Result ℕ Refused) (r : ℕ) (words left : List ℤ) → sums_result w ≡ sums_written a.0 (length words)
          → left ≡ sums_list a.0 words → r ≡ result_answer w
          → (r ≡ job_sums_answer frame budget (length words)) × (left ≡ job_sums_list frame budget words)
      unfolding job_sums_answer job_sums_list
      job_sums-accepted w r words left ew eb er =
          let q = eq-eqb (loaded frame).refusal 0 none in
          (er ∙ sums_given w a.0 (length words) ew ∙ rw (state_is, q), eb ∙ rw (state_is, q))

      pub job_trace-accepted : (c : Recorded) (w : Result ℕ Refused) (r : ℕ) (out left : List ℕ)
          → c ≡ record_answer a.0 → trace_written w ≡ trace_writer_answer c.trace (length out) → left ≡ trace_writer_buffer c.trace out
          → r ≡ result_answer w
          → (r ≡ job_trace_answer frame budget (length out)) × (left ≡ job_trace_buffer frame budget out)
      unfolding job_trace_answer job_trace_buffer job_record
      job_trace-accepted c w r out left ec ew eb er =
          let q = eq-eqb (loaded frame).refusal 0 none in
          let t : c.trace ≡ (record_answer (job_state frame budget)).trace = ap (λ (x : Recorded). x.trace) ec ∙ ap (λ s. (record_answer s).trace) state_is in
          (er ∙ trace_given w c.trace (length out) ew ∙ rw (t, q), eb ∙ rw (t, q))

      -- the record of that state is not refused
      pub job_recorded : (x : Refused) → recorded (Err x) ≡ record_answer a.0 → ⊥
      unfolding record_answer loaded
      job_recorded x f =
          let s = ap (λ (y : Loaded). y.state) e ∙ accepted_load frame none in
          let p : first_refusal (state_checks l.state) ≡ 0 =
          rw s ((passes_exactly (fresh (header_of frame) (frame_numbers frame))).1
          ((fresh_start (header_of frame) (frame_numbers frame)).0, loaded-passes-limits frame none)) in
          let b : a.0 ≡ (advanced l.state budget).state = sym (state_given a) ∙ ap (λ (y : Advanced). y.state) ea in
          let z : number_of x ≡ 0 = ap (λ (y : Recorded). y.refusal) f ∙ rw b (advanced-passes l.state budget p) in
          omega (arith, number_positive x)
