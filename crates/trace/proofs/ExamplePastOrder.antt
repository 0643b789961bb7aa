-- What is said of digits past row n and past step k, at work on case A with an x of 3: 9 is stored there, and
-- from the statements alone the trace is the same, and a record has 0 there.
use mathlib.Core.Path.{◌≡◌, refl, sym, ap, ◌∙◌}
use mathlib.Core.Bool.{true}
use mathlib.Core.List.{List, [], ◌∷◌, ◌++◌}
use mathlib.Core.Logic.{inl, inr}
use Prim.Native.Nat.{ℕ}
use native.Mathlib.Omega.{arith}
use lib.IntN.{pos, negsuc}
use lib.ListN.{set, replicate}
use lib.Seq.{get_or-set_other}
use Rattle.integers.specs.Flat.{entry, list_from}
use Rattle.integers.specs.Sum.{weight, total}
use Rattle.bitfields.specs.Layout.{bits, number, octets, pack, written, field, values_from}
use Rattle.bitfields.specs.Twos.{encode, decode}
use Rattle.scale.specs.Scale.{every}
use Rattle.system.specs.Rows.{first_row_from}
use Rattle.system.specs.System.{matrix, curve_entry, right_side}
use Rattle.job.specs.declared.Header.{Header}
use Rattle.state.specs.State.{beyond, fresh, breaks_limit}
use Rattle.state.specs.Inner.{state_of}
use Rattle.state.specs.declared.State.{State}
use Rattle.state.proofs.PastOrder.{overwritten, overwritten_below}
use Rattle.trace.specs.PastOrder.{RecordZeros, ReadZeros, RecordBelow, SameMade, WriteBelow}
use Rattle.trace.specs.Trace.{TraceWritten, Recorded, digit_list, digit_array, trace_reader_answer, state_record, record_answer, trace_writer_checks, trace_writer_answer, trace_writer_buffer, trace_checks, trace_record}
use Rattle.trace.specs.declared.Record.{Record}
use Rattle.trace.proofs.PastOrder.{record_zeros, read_zeros, record_below, write_below}

-- ---- case A with the x of 3 that document 02 gives it, as A's own frame is refused by 8: the record and the
-- trace after its 5 steps. Row 1 has 0, 1, 0, 1, -1, row 2 has 1, 0, 0, 0, 0.

unfoldable pub record_A : Record
record_A =
    record {
      header = record { kind = 0; code = 0; p = 1; f = 4; n = 2; m = 4 };
      k = 5;
      digits = digit_array 2 5 (pos 0 ∷ pos 1 ∷ pos 1 ∷ pos 0 ∷ pos 0 ∷ pos 0 ∷ pos 1 ∷ pos 0 ∷ negsuc 0 ∷ pos 0 ∷ []);
    }

unfoldable pub trace_A : List ℕ
trace_A = 0x01 ∷ 0x10 ∷ 0x44 ∷ 0x14 ∷ 0x01 ∷ 0x08 ∷ 0x00 ∷ 0x00 ∷ 0x83 ∷ 0xe0 ∷ []

-- ---- this record with 9 in step 6 and in row 3

abbrev pub spoilt_record_A : Record
spoilt_record_A = record { header = record_A.header; k = record_A.k; digits = set (set record_A.digits 80 (pos 9)) 2 (pos 9) }

same_A : SameMade record_A spoilt_record_A
unfolding record_A
same_A =
    record {
      header = refl;
      steps = refl;
      digits = λ j i l m.
          sym (get_or-set_other (set record_A.digits 80 (pos 9)) 2 _ (pos 9) (pos 0) (λ e. omega arith) ∙ get_or-set_other record_A.digits 80 _ (pos 9) (pos 0) (λ e. omega arith));
    }

abbrev room_A : List ℕ
room_A = replicate 11 255

written_A : ((trace_writer_answer record_A 11).length ≡ 10) × (trace_writer_buffer record_A room_A ≡ trace_A ++ (255 ∷ []))
unfolding record_A trace_A bits number octets pack encode digit_list digit_array list_from first_row_from beyond trace_writer_checks trace_writer_answer trace_writer_buffer written
written_A = (refl, refl)

module _ (below : WriteBelow) where
  -- it has the ten bytes of A's trace, and the eleventh stays
  spoilt_written : ((trace_writer_answer spoilt_record_A 11).length ≡ 10) × (trace_writer_buffer spoilt_record_A room_A ≡ trace_A ++ (255 ∷ []))
  spoilt_written =
      let x = below record_A spoilt_record_A same_A in
      (sym (ap (λ (w : TraceWritten). w.length) (x.answer 11)) ∙ written_A.0, sym (x.buffer room_A) ∙ written_A.1)

-- ---- the job of A after a step in which row 2 has the digit 1, and the same with 9 in row 3

unfoldable pub recorded_job_A : State
recorded_job_A =
    let h : Header = record { kind = 0; code = 0; p = 1; f = 4; n = 2; m = 4 } in
    let s = fresh h (pos 3 ∷ pos 3 ∷ pos 8 ∷ []) in
    state_of true h s.scale 1 s.g s.z (set (replicate 960 (pos 0)) 1 (pos 1))

abbrev pub other_A : State
other_A = overwritten recorded_job_A 2 0 0 (pos 9)

recorded_A : ((record_answer recorded_job_A).refusal ≡ 0) × (entry (record_answer recorded_job_A).trace.digits 0 1 ≡ pos 1)
    × ((record_answer recorded_job_A).trace.header.n ≡ 2)
unfolding recorded_job_A fresh record_answer state_record digit_list digit_array breaks_limit beyond every first_row_from weight total list_from matrix curve_entry right_side
recorded_A = (refl, refl, refl)

module _ (below : RecordBelow) where
  same_record : record_answer recorded_job_A ≡ record_answer other_A
  unfolding recorded_job_A fresh
  same_record = below recorded_job_A other_A (overwritten_below recorded_job_A 2 0 0 (pos 9) (omega arith) (omega arith) (omega arith))

  -- its record is taken, and has that digit
  other_recorded : ((record_answer other_A).refusal ≡ 0) × (entry (record_answer other_A).trace.digits 0 1 ≡ pos 1)
  other_recorded =
      (sym (ap (λ (r : Recorded). r.refusal) same_record) ∙ recorded_A.0, sym (ap (λ (r : Recorded). entry r.trace.digits 0 1) same_record) ∙ recorded_A.1)

  -- and 0 in row 3
  other_zero : RecordZeros → entry (record_answer other_A).trace.digits 0 2 ≡ pos 0
  other_zero zeros =
      (zeros other_A).digits 0 2 (omega arith) (omega arith) (inr (omega (arith, recorded_A.2, ap (λ (r : Recorded). r.trace.header.n) same_record)))

-- the record of A's trace, which has five steps, has 0 in step 6
steps_A : (trace_reader_answer trace_A).trace.k ≡ 5
unfolding trace_A bits number field values_from decode digit_array list_from first_row_from beyond trace_checks trace_record trace_reader_answer
steps_A = refl

read_zero : ReadZeros → entry (trace_reader_answer trace_A).trace.digits 5 0 ≡ pos 0
read_zero zeros = (zeros trace_A).digits 5 0 (omega arith) (omega arith) (inl (omega (arith, steps_A)))

-- the statements are proved
pub trace_past_order_A : ((trace_writer_answer spoilt_record_A 11).length ≡ 10) × ((record_answer other_A).refusal ≡ 0) × (entry (record_answer other_A).trace.digits 0 2 ≡ pos 0)
    × (entry (trace_reader_answer trace_A).trace.digits 5 0 ≡ pos 0)
trace_past_order_A = ((spoilt_written write_below).0, (other_recorded record_below).0, other_zero record_below record_zeros, read_zero read_zeros)
