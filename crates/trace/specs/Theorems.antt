-- What is promised of traces and records. The contracts say that the trace reader, the record of a state and
-- the trace writer answer and leave what `Trace` defines, so each statement here is one about those calls.
-- `proofs/Theorems.antt` and `proofs/Valid.antt` prove them, each under its name in small letters,
-- with a dash where two names meet.
use mathlib.Core.{Path.◌≡◌, List.List, Logic.◌↔◌}
use Rattle.std.specs.Prelude.{ℕ, ◌<◌, ◌≤◌, length, take, drop}
use Rattle.bitfields.specs.Layout.{Bytes, write}
use Rattle.job.specs.{Refusal.Decides, declared.Header.Header}
use Rattle.state.specs.{State.all_steps, State.state_checks, declared.State.State}
use Rattle.trace.specs.{Trace.trace_length, Trace.zero_record, Trace.trimmed, Trace.record_fields, Trace.ValidRecord, Trace.trace_checks, Trace.trace_refusal, Trace.trace_record, Trace.trace_reader_answer, Trace.AcceptedTrace, Trace.record_refusal, Trace.state_record, Trace.record_answer, Trace.trace_writer_checks, Trace.trace_writer_refusal, Trace.trace_writer_answer, Trace.trace_writer_buffer, PastOrder.RecordZeroPast, PastOrder.SameMade, declared.Record.Record}

-- ---- demand 1: the checks of a call decide its refusal

abbrev pub TraceDecided : Type 0
TraceDecided = (s : List ℕ) → Decides (trace_checks s) (trace_refusal s)

abbrev pub RecordDecided : Type 0
RecordDecided = (s : State) → Decides (state_checks s) (record_refusal s)

abbrev pub TraceWriterDecided : Type 0
TraceWriterDecided = (t : Record) (room : ℕ) → Decides (trace_writer_checks t room) (trace_writer_refusal t room)

-- ---- demand 1: a refusal gives a record of zeros, or 0 bytes and every lent byte as it was

abbrev pub TraceRefusedRecord : Type 0
TraceRefusedRecord = (s : List ℕ) → 0 < trace_refusal s → (trace_reader_answer s).trace ≡ zero_record

abbrev pub StateRefusedRecord : Type 0
StateRefusedRecord = (s : State) → 0 < record_refusal s → (record_answer s).trace ≡ zero_record

abbrev pub TraceRefusedLength : Type 0
TraceRefusedLength = (t : Record) (room : ℕ)
    → 0 < trace_writer_refusal t room → (trace_writer_answer t room).length ≡ 0

abbrev pub TraceRefusedBuffer : Type 0
TraceRefusedBuffer = (t : Record) (out : List ℕ)
    → 0 < trace_writer_refusal t (length out) → trace_writer_buffer t out ≡ out

-- ---- what is accepted

-- a trace is accepted exactly when its header is within the limits, its steps are at most what a trace of the
-- job may hold, its length is what the fields demand, its filling bits are 0 and no digit is beyond p
abbrev pub TraceAccepted : Type 0
TraceAccepted = (s : List ℕ) → (trace_refusal s ≡ 0) ↔ AcceptedTrace s

-- the writer takes the records that keep the same limits, if its buffer has room
abbrev pub RecordTaken : Type 0
RecordTaken = (t : Record) (room : ℕ)
    → (trace_writer_refusal t room ≡ 0) ↔ (ValidRecord t × (trace_length t.header t.k ≤ room))

-- ---- the buffer lent to the writer

-- bytes past the trace keep their values, whether or not there is a refusal
abbrev pub TraceBufferPast : Type 0
TraceBufferPast = (t : Record) (out : List ℕ)
    → drop (trace_length t.header t.k) (trace_writer_buffer t out)
    ≡ drop (trace_length t.header t.k) out

-- before them stands the trace
abbrev pub TraceBufferFront : Type 0
TraceBufferFront = (t : Record) (out : List ℕ) → trace_writer_refusal t (length out) ≡ 0
    → take (trace_length t.header t.k) (trace_writer_buffer t out) ≡ write (record_fields t)

-- ---- demand 2: the round trips

-- an accepted trace, read and written, is the same bytes
abbrev pub TraceReadWrite : Type 0
TraceReadWrite = (s : List ℕ) → Bytes s → trace_refusal s ≡ 0
    → write (record_fields (trace_record s)) ≡ s

-- and the writer takes what was read, with any room of at least its bytes
abbrev pub TraceReadTaken : Type 0
TraceReadTaken = (s : List ℕ) (room : ℕ)
    → trace_refusal s ≡ 0 → length s ≤ room → trace_writer_refusal (trace_record s) room ≡ 0

-- a record that the writer takes, written and read, is the same record, trimmed
abbrev pub TraceWriteRead : Type 0
TraceWriteRead = (t : Record) (room : ℕ) (s : List ℕ)
    → trace_writer_refusal t room ≡ 0 → s ≡ write (record_fields t)
    → (trace_refusal s ≡ 0) × (trace_record s ≡ trimmed t) × (length s ≡ trace_length t.header t.k)

-- trimmed, it has the same header, steps and digits of these steps below its order, and 0 elsewhere
abbrev pub TrimmedMade : Type 0
TrimmedMade = (t : Record) → ValidRecord t → SameMade t (trimmed t) × RecordZeroPast (trimmed t)

-- the writer takes the record of a state, and its trace gives it back
abbrev pub StateTrace : Type 0
StateTrace = (s : State) (room : ℕ) (w : List ℕ)
    → record_refusal s ≡ 0 → trace_length s.header s.k ≤ room → w ≡ write (record_fields (state_record s))
    → (trace_writer_refusal (state_record s) room ≡ 0) × (trace_refusal w ≡ 0) × (trace_record w ≡ state_record s)

-- ---- sizes: a trace after 0 steps has 4 bytes, and the longest has 604

pub record TraceSizes : Type 0 where
  pub shortest : (h : Header) → trace_length h 0 ≡ 4
  pub longest : (h : Header) → h.n ≡ 16 → trace_length h all_steps ≡ 604
  pub accepted : (s : List ℕ) → trace_refusal s ≡ 0 → (4 ≤ length s) × (length s ≤ 604)
