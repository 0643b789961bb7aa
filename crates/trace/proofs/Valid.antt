-- What the checks of traces and records come to: an accepted trace is the bytes of a valid record, and the
-- writer takes the valid records that its buffer has room for. Assumes nothing.
use mathlib.Core.Path.{◌≡◌}
use mathlib.Core.Bool.{false}
use mathlib.Core.List.{List}
use mathlib.Core.Logic.{◌↔◌}
use Prim.Native.Nat.{ℕ, ◌*◌, ◌<◌, ◌≤◌}
use native.Mathlib.Nat.{mul-le-mul_right}
use native.Mathlib.Omega.{arith}
use borrow.Author.Tests.{le-ltb, ltb-false}
use lib.Arith.{le→nltb}
use lib.Dec.{nltb→le}
use lib.IntN.{ℤ, pos, negsuc, nat_abs}
use lib.ListN.{length}
use Rattle.integers.specs.Flat.{entry}
use Rattle.bitfields.specs.Layout.{fill, field}
use Rattle.bitfields.specs.Twos.{Fits, AllFit}
use Rattle.job.specs.Header.{digit_bits, trace_header_checks, trace_read_checks, Limits}
use Rattle.job.specs.Refusal.{first_refusal, None, none, also}
use Rattle.job.proofs.Refusal.{accepted_exactly, equal, not_unequal, fails, not_failed, or_fails}
use Rattle.trace.specs.Theorems.{TraceAccepted, RecordTaken}
use Rattle.job.proofs.Limits.{trace-limits, trace_read_limits, digit-small, few-digits, last_in_trace}
use Rattle.job.specs.declared.Header.{Header}
use Rattle.header.specs.Header.{header_of}
use Rattle.header.proofs.Header.{read_order}
use Rattle.state.specs.State.{breaks_limit, state_checks, digit_beyond}
use Rattle.job.specs.Rules.{trace_steps}
use Rattle.state.specs.declared.State.{State}
use Rattle.state.proofs.Digits.{beyond_false}
use Rattle.state.proofs.PassesLimits.{passes-limits}
use Rattle.trace.specs.Trace.{record_of, ValidRecord, AcceptedTrace, digit_list, trace_bits, trace_length, steps_of, trace_digits, too_many_steps, trace_checks, trace_record, record_refusal, trace_writer_checks}
use Rattle.trace.proofs.Digits.{list-fits}
use Rattle.trace.specs.Inner.{StepsFit}
use Rattle.trace.specs.declared.Record.{Record}

-- ---- 10

-- it does not hold exactly when k keeps both limits
pub steps-kept : (h : Header) (k : ℕ) → (too_many_steps h k ≡ false) ↔ ((k ≤ trace_steps h) × (k * digit_bits h.code ≤ 60))
steps-kept h k = (
  (λ e. let n = (or_fails _ _).0 e in (ltb-false _ _ n.0, ltb-false _ _ n.1)),
  (λ l. (or_fails _ _).1 (le-ltb _ _ l.0, le-ltb _ _ l.1)),
)

-- the steps are then at most 60
pub few-steps : (h : Header) (k : ℕ) → too_many_steps h k ≡ false → k ≤ 60
few-steps h k e = few-digits k h.code ((steps-kept h k).0 e).1

-- ---- digits within p

beyond_not : (h : Header) (k : ℕ) (ds : List ℤ) → (digit_beyond h k ds ≡ false) ↔ ((j i : ℕ) → j < k → i < h.n → nat_abs (entry ds j i) ≤ h.p)
beyond_not h k ds =
    let b = beyond_false h.n h.p ds 0 k in
    ((λ e j i l m. b.0 e i m j (omega arith) (omega arith)), (λ f. b.1 (λ i m j g l. f j i (omega arith) m)))

fits_five : (z : ℤ) → nat_abs z ≤ 15 → Fits 5 z
fits_five (pos n) h = record { size = omega arith }
fits_five (negsuc n) h = record { size = omega arith }

module _ {t : Record} (a : ValidRecord t) where
  pub order_some : 0 < t.header.n
  order_some = a.limits.order_least

  pub record_steps_most : t.k ≤ 60
  record_steps_most = few-digits t.k t.header.code a.bits

  -- 5 bits hold them
  pub steps-fit : StepsFit t.header.n t.k t.digits
  steps-fit = record { step_fits = λ j i l m. fits_five (entry t.digits j i) (omega (arith, a.within j i l m, digit-small t.header a.limits)) }

  pub fit-digits : AllFit 5 (digit_list t.header.n t.k t.digits)
  fit-digits = list-fits steps-fit order_some

-- ---- the checks as facts

pub trace-header_is : (s : List ℕ) → (first_refusal (trace_read_checks (header_of s)) ≡ 0) ↔ Limits (header_of s)
trace-header_is s = trace_read_limits (header_of s) (read_order s).0 (read_order s).1

none-accepted : (s : List ℕ) → None (trace_checks s) → AcceptedTrace s
unfolding trace_checks trace_record
none-accepted s (also t₁ (also t₂ (also t₃ (also t₄ (also t₅ (also t₁₀ (also t₆ (also t₇ (also t₁₁ none))))))))) =
    let h = header_of s in
    let k = (steps-kept h (steps_of s)).0 (fails (too_many_steps h (steps_of s)) t₁₀) in
    record {
      size = equal (length s) (trace_length h (steps_of s)) t₆;
      zeros = equal (field s (trace_bits h (steps_of s)) (fill (trace_bits h (steps_of s)))) 0 t₇;
      valid = record {
        limits = (trace-header_is s).0 ((accepted_exactly (trace_read_checks h) tt).1 (also t₂ (also t₃ (also t₄ (also t₅ none)))));
        steps = k.0;
        bits = k.1;
        within = (beyond_not h (steps_of s) (trace_digits s)).0 (fails (digit_beyond h (steps_of s) (trace_digits s)) t₁₁);
      };
    }

accepted-none : (s : List ℕ) → AcceptedTrace s → None (trace_checks s)
unfolding trace_checks trace_record
accepted-none s a = with_header ((accepted_exactly (trace_read_checks (header_of s)) tt).0 ((trace-header_is s).1 a.valid.limits))
  where
    with_header : None (trace_read_checks (header_of s)) → None (trace_checks s)
    with_header (also t₂ (also t₃ (also t₄ (also t₅ none)))) =
        also (le→nltb (length s) 4 (omega (arith, a.size)))
        (also t₂ (also t₃ (also t₄ (also t₅
        (also (not_failed (too_many_steps (header_of s) (steps_of s)) ((steps-kept (header_of s) (steps_of s)).1 (a.valid.steps, a.valid.bits)))
        (also (not_unequal (length s) (trace_length (header_of s) (steps_of s)) a.size)
        (also (not_unequal _ 0 a.zeros)
        (also (not_failed (digit_beyond (header_of s) (steps_of s) (trace_digits s)) ((beyond_not (header_of s) (steps_of s) (trace_digits s)).1 a.valid.within)) none))))))))

-- a trace is accepted exactly when it is the bytes of a valid record
pub trace-accepted : TraceAccepted
unfolding trace_checks
trace-accepted s =
    ((λ e. none-accepted s ((accepted_exactly (trace_checks s) tt).0 e)), (λ a. (accepted_exactly (trace_checks s) tt).1 (accepted-none s a)))

none-taken : (t : Record) (room : ℕ) → None (trace_writer_checks t room) → ValidRecord t × (trace_length t.header t.k ≤ room)
unfolding trace_writer_checks
none-taken t room (also t₂ (also t₁₄ (also t₃ (also t₄ (also t₅ (also t₁₀ (also t₁₁ (also t₂₃ none)))))))) =
    let h = t.header in
    let k = (steps-kept h t.k).0 (fails (too_many_steps h t.k) t₁₀) in (
      record {
        limits = (trace-limits h).0 ((accepted_exactly (trace_header_checks h) tt).1 (also t₂ (also t₁₄ (also t₃ (also t₄ (also t₅ none))))));
        steps = k.0;
        bits = k.1;
        within = (beyond_not h t.k t.digits).0 (fails (digit_beyond h t.k t.digits) t₁₁);
      },
      nltb→le room (trace_length h t.k) t₂₃,
    )

taken_none : (t : Record) (room : ℕ) → ValidRecord t → trace_length t.header t.k ≤ room → None (trace_writer_checks t room)
unfolding trace_writer_checks
taken_none t room a r = with_header ((accepted_exactly (trace_header_checks t.header) tt).0 ((trace-limits t.header).1 a.limits))
  where
    with_header : None (trace_header_checks t.header) → None (trace_writer_checks t room)
    with_header (also t₂ (also t₁₄ (also t₃ (also t₄ (also t₅ none))))) =
        also t₂ (also t₁₄ (also t₃ (also t₄ (also t₅
        (also (not_failed (too_many_steps t.header t.k) ((steps-kept t.header t.k).1 (a.steps, a.bits)))
        (also (not_failed (digit_beyond t.header t.k t.digits) ((beyond_not t.header t.k t.digits).1 a.within))
        (also (le→nltb room (trace_length t.header t.k) r) none)))))))

-- the writer takes exactly the valid records that its buffer has room for
pub record_taken : RecordTaken
unfolding trace_writer_checks
record_taken t room = (
  (λ e. none-taken t room ((accepted_exactly (trace_writer_checks t room) tt).0 e)),
  (λ a. (accepted_exactly (trace_writer_checks t room) tt).1 (taken_none t room a.0 a.1)),
)

-- ---- the record of a state

-- the header, the steps and the digits of a state, as they stand in it
abbrev pub untrimmed : State → Record
untrimmed s = record_of s.header s.k s.digits

-- a state that is refused by neither 20 nor 24
pub recorded_valid : (s : State) → record_refusal s ≡ 0 → ValidRecord (untrimmed s)
recorded_valid s e = by_parts ((accepted_exactly (state_checks s) tt).0 e)
  where
    by_parts : None (state_checks s) → ValidRecord (untrimmed s)
    by_parts (also t₂₀ (also t₂₄ none)) =
        let p = (passes-limits s).0 (fails (breaks_limit s) t₂₄) in
        record {
          limits = p.limits;
          steps = omega (arith, p.steps, last_in_trace s.header s.scale p.scaled);
          bits = omega (arith, mul-le-mul_right (digit_bits s.header.code) p.steps, p.scaled.last_most);
          within = p.made;
        }
