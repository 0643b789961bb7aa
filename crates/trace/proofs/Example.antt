-- The statements on traces at work on case A with an x of 3: from each statement alone, every part of it
-- gives a number, a digit or the ten bytes of A's trace. The record that is written has 9 past its rows and
-- steps, which the trace does not hold.
use mathlib.Core.Path.{◌≡◌, refl, sym, ap, ◌∙◌}
use mathlib.Core.Bool.{true, false}
use mathlib.Core.List.{[], ◌∷◌}
use mathlib.Core.Logic.{inl}
use Prim.Native.Nat.{ℕ, ◌≤◌}
use native.Mathlib.Omega.{arith}
use lib.IntN.{pos, negsuc}
use lib.ListN.{length}
use Rattle.integers.specs.Flat.{entry, list_from}
use Rattle.integers.specs.Sum.{weight, total}
use Rattle.bitfields.specs.Layout.{Bytes, bits, number, octets, pack, field, values_from, write}
use Rattle.bitfields.specs.Twos.{encode, decode}
use Rattle.bitfields.proofs.Writing.{bytes-write}
use Rattle.scale.specs.Scale.{every}
use Rattle.system.specs.Rows.{first_row_from}
use Rattle.system.specs.System.{matrix, curve_entry, right_side}
use Rattle.job.specs.declared.Header.{Header}
use Rattle.state.specs.State.{beyond, fresh, breaks_limit, all_steps}
use Rattle.state.specs.Inner.{state_of}
use Rattle.state.specs.declared.State.{State}
use Rattle.trace.specs.Trace.{digit_list, digit_array, trace_length, trimmed, record_fields, too_many_steps, trace_checks, trace_refusal, trace_record, record_refusal, state_record, trace_writer_checks, trace_writer_refusal}
use Rattle.trace.specs.Theorems.{TraceReadWrite, TraceReadTaken, TraceWriteRead, TrimmedMade, StateTrace, TraceSizes}
use Rattle.trace.proofs.Valid.{record_taken}
use Rattle.trace.proofs.Theorems.{trace_read_write, trace_read_taken, trace-write_read, trimmed-made, state-trace, trace_sizes}
use Rattle.trace.proofs.ExamplePastOrder.{record_A, trace_A, spoilt_record_A}

-- a state of A's job with the digits of its five steps; the residuals, in no trace, are those of a load
unfoldable pub state_A : State
state_A =
    let s = fresh record_A.header (pos 3 ∷ pos 3 ∷ pos 8 ∷ []) in
    state_of true record_A.header s.scale 5 s.g s.z record_A.digits

-- ---- what the definitions give

spelt_A : trace_A ≡ write (record_fields spoilt_record_A)
unfolding record_A trace_A bits number octets pack encode digit_list digit_array list_from
spelt_A = refl

all_bytes_A : Bytes trace_A
all_bytes_A = rw (← spelt_A) at (bytes-write (record_fields spoilt_record_A))

accepted_A : trace_refusal trace_A ≡ 0
unfolding trace_A bits number field values_from decode digit_array list_from first_row_from beyond trace_checks
accepted_A = refl

taken_A : trace_writer_refusal spoilt_record_A 10 ≡ 0
unfolding record_A digit_array list_from first_row_from beyond trace_writer_checks
taken_A = refl

last_A : entry spoilt_record_A.digits 4 0 ≡ negsuc 0
unfolding record_A digit_array list_from
last_A = refl

recorded_A : (record_refusal state_A ≡ 0) × (trace_A ≡ write (record_fields (state_record state_A)))
unfolding record_A trace_A state_A fresh state_record bits number octets pack encode digit_list digit_array breaks_limit beyond every first_row_from weight total list_from matrix curve_entry right_side
recorded_A = (refl, refl)

-- the two sides of 10: A, whose m is 4, may have 7 steps; with m 59 in radix 2 there may be 60, and with m 14
-- in radix 16 there may be 15, as 60 bits hold no more
abbrev header_with : (code p m : ℕ) → Header
header_with code p m = record { kind = 0; code = code; p = p; f = 4; n = 2; m = m }

most-steps_A : (too_many_steps record_A.header 7 ≡ false) × (too_many_steps record_A.header 8 ≡ true)
unfolding record_A
most-steps_A = (refl, refl)

steps_60_bits : (too_many_steps (header_with 0 1 59) 60 ≡ false) × (too_many_steps (header_with 0 1 59) 61 ≡ true)
    × (too_many_steps (header_with 3 8 14) 15 ≡ false) × (too_many_steps (header_with 3 8 14) 16 ≡ true)
steps_60_bits = (refl, refl, refl, refl)

-- ---- what the statements give

module _ (written : TraceReadWrite) (taken : TraceReadTaken) where
  -- A's trace, read and written, is its ten bytes, for which ten bytes are room enough
  trace_read_write_A : (write (record_fields (trace_record trace_A)) ≡ trace_A) × (trace_writer_refusal (trace_record trace_A) 10 ≡ 0)
  unfolding trace_A
  trace_read_write_A = (written trace_A all_bytes_A accepted_A, taken trace_A 10 accepted_A (omega arith))

module _ (holds : TraceWriteRead) where
  -- what the record is written as is ten bytes, and read they are the record with 0 for each 9
  trace-write_read_A : (trace_refusal trace_A ≡ 0) × (trace_record trace_A ≡ trimmed spoilt_record_A) × (length trace_A ≡ 10)
  unfolding record_A
  trace-write_read_A = holds spoilt_record_A 10 trace_A taken_A spelt_A

module _ (holds : TrimmedMade) where
  -- trimmed, it has two rows, five steps and -1 for the last digit of row 1, as before, and 0 in step 6
  trimmed_A : ((trimmed spoilt_record_A).header.n ≡ 2) × ((trimmed spoilt_record_A).k ≡ 5)
      × (entry (trimmed spoilt_record_A).digits 4 0 ≡ negsuc 0) × (entry (trimmed spoilt_record_A).digits 5 0 ≡ pos 0)
  unfolding record_A
  trimmed_A =
      let x = holds spoilt_record_A ((record_taken spoilt_record_A 10).0 taken_A).0 in (
        ap (λ (h : Header). h.n) (sym x.0.header),
        sym x.0.steps,
        sym (x.0.digits 4 0 (omega arith) (omega arith)) ∙ last_A,
        x.1.digits 5 0 (omega arith) (omega arith) (inl (omega arith)),
      )

module _ (holds : StateTrace) where
  -- the record of the state is taken with room for ten bytes, and these give it back
  state-trace_A : (trace_writer_refusal (state_record state_A) 10 ≡ 0) × (trace_refusal trace_A ≡ 0)
      × (trace_record trace_A ≡ state_record state_A)
  unfolding record_A state_A
  state-trace_A = holds state_A 10 trace_A recorded_A.0 (omega arith) recorded_A.1

module _ (holds : TraceSizes) where
  -- after 0 steps A's trace has 4 bytes; with 16 rows and 60 steps one has 604; and three bytes are no trace
  sizes_A : (trace_length record_A.header 0 ≡ 4)
      × (trace_length (record { kind = 0; code = 0; p = 1; f = 4; n = 16; m = 59 }) all_steps ≡ 604)
      × (trace_refusal (0x01 ∷ 0x10 ∷ 0x44 ∷ []) ≡ 0 → ⊥) × (length trace_A ≤ 604)
  sizes_A = (
    holds.shortest record_A.header,
    holds.longest (record { kind = 0; code = 0; p = 1; f = 4; n = 16; m = 59 }) refl,
    λ e. omega (arith, (holds.accepted (0x01 ∷ 0x10 ∷ 0x44 ∷ []) e).0),
    (holds.accepted trace_A accepted_A).1,
  )

-- the statements are proved
pub traces_A : (write (record_fields (trace_record trace_A)) ≡ trace_A) × (length trace_A ≡ 10)
    × (entry (trimmed spoilt_record_A).digits 4 0 ≡ negsuc 0) × (trace_record trace_A ≡ state_record state_A)
traces_A = ((trace_read_write_A trace_read_write trace_read_taken).0, (trace-write_read_A trace-write_read).2, (trimmed_A trimmed-made).2, (state-trace_A state-trace).2)

pub trace_sizes_A : trace_length record_A.header 0 ≡ 4
trace_sizes_A = (sizes_A trace_sizes).0
