-- The proofs of the statements of `specs/Theorems.antt`; `Valid` has those of what is accepted.
use mathlib.Core.Path.{◌≡◌, refl, sym, ap, ◌∙◌}
use Prim.Native.Nat.{ℕ, ◌≤◌}
use native.Mathlib.Nat.{mul-le-mul, mul-zero}
use native.Mathlib.Omega.{arith}
use borrow.Author.Tests.{eq-eqb}
use lib.ListN.{length, take, drop}
use Rattle.bitfields.specs.Layout.{bits, bytes_for, write, written}
use Rattle.bitfields.proofs.Writing.{take-written, drop-written}
use Rattle.job.proofs.Refusal.{decided, refused_gives, either}
use Rattle.trace.specs.Theorems.{TraceDecided, RecordDecided, TraceWriterDecided, TraceRefusedRecord, StateRefusedRecord, TraceRefusedLength, TraceRefusedBuffer, TraceBufferPast, TraceBufferFront, TraceReadWrite, TraceReadTaken, TraceWriteRead, TrimmedMade, StateTrace, TraceSizes}
use Rattle.job.specs.declared.Header.{Header}
use Rattle.state.specs.State.{state_checks}
use Rattle.trace.specs.Trace.{trace_length, trace_checks, trace_refusal, trace_record, trace_reader_answer, record_refusal, state_record, record_answer, trace_writer_checks, trace_writer_refusal, record_fields, trace_writer_answer, trace_writer_buffer, trimmed}
use Rattle.trace.proofs.Digits.{entry_kept, entry-none}
use Rattle.trace.proofs.Valid.{trace-accepted, record_taken, record_steps_most, untrimmed, recorded_valid}
use Rattle.trace.proofs.RoundTrip.{bits-trace, write-accepted, trimmed-valid, trimmed_twice, written_record, written-trace_length, written-trace-accepted}

-- ---- demand 1

pub trace_decided : TraceDecided
unfolding trace_checks
trace_decided s = decided (trace_checks s) tt

pub record_decided : RecordDecided
record_decided s = decided (state_checks s) tt

pub trace_writer_decided : TraceWriterDecided
unfolding trace_writer_checks
trace_writer_decided t room = decided (trace_writer_checks t room) tt

pub trace-refused_record : TraceRefusedRecord
unfolding trace_reader_answer
trace-refused_record s h = refused_gives (trace_refusal s) _ _ h

pub state-refused_record : StateRefusedRecord
unfolding record_answer
state-refused_record s h = refused_gives (record_refusal s) _ _ h

pub trace-refused-length : TraceRefusedLength
unfolding trace_writer_answer
trace-refused-length t room h = refused_gives (trace_writer_refusal t room) _ _ h

pub trace-refused-buffer : TraceRefusedBuffer
unfolding trace_writer_buffer
trace-refused-buffer t out h = refused_gives (trace_writer_refusal t (length out)) _ _ h

-- ---- the buffer lent to the writer

pub trace-buffer_past : TraceBufferPast
unfolding trace_writer_buffer
trace-buffer_past t out =
    either (trace_writer_refusal t (length out)) (drop (trace_length t.header t.k))
    (λ e. rw (bits-trace t.header t.k t.digits) at (drop-written out (record_fields t))) refl

pub trace-buffer_front : TraceBufferFront
unfolding trace_writer_buffer
trace-buffer_front t out e =
    let b : trace_length t.header t.k ≡ bytes_for (bits (record_fields t)) = ap bytes_for (sym (bits-trace t.header t.k t.digits)) in
    rw (eq-eqb (trace_writer_refusal t (length out)) 0 e) (ap (λ (n : ℕ). take n (written out (record_fields t))) b ∙ take-written out (record_fields t))

-- ---- demand 2

pub trace_read_write : TraceReadWrite
trace_read_write s k e = write-accepted k ((trace-accepted s).0 e)

pub trace_read_taken : TraceReadTaken
unfolding trace_record
trace_read_taken s room e l =
    let a = (trace-accepted s).0 e in
    (record_taken (trace_record s) room).1 (a.valid, rw a.size at l)

pub trace-write_read : TraceWriteRead
trace-write_read t room s e p =
    let a = ((record_taken t room).0 e).0 in
    rw p ((trace-accepted (write (record_fields t))).1 (written-trace-accepted a), written_record a, written-trace_length a)

pub trimmed-made : TrimmedMade
trimmed-made t a = (
  record { header = refl; steps = refl; digits = λ j i h l. sym (entry_kept t.header.n t.k t.digits j i a.limits.order_most (record_steps_most a) h l) },
  record { digits = λ j i h l o. entry-none t.header.n t.k _ j i h l o },
)

pub state-trace : StateTrace
unfolding state_record
state-trace s room w e l p =
    let a = recorded_valid s e in
    let b = trimmed-valid a in
    rw p ((record_taken (trimmed (untrimmed s)) room).1 (b, l), (trace-accepted _).1 (written-trace-accepted b), written_record b ∙ trimmed_twice a)

-- ---- sizes

length_most : (h : Header) (k : ℕ) → h.n ≤ 16 → k ≤ 60 → trace_length h k ≤ 604
length_most h k a b = omega (arith, mul-le-mul a b)

pub trace_sizes : TraceSizes
unfolding trace_record
trace_sizes =
    record {
      shortest = λ h. rw (mul-zero h.n);
      longest = λ h e. rw e;
      accepted = λ s e.
          let a = (trace-accepted s).0 e in
          (omega (arith, a.size), rw a.size (length_most (trace_record s).header (trace_record s).k a.valid.limits.order_most (record_steps_most a.valid)));
    }
