-- What each call of the C interface answers, and what it leaves in lent memory: the contracts of src/lib.rt
-- are equalities with these. emethod.h says the same to a caller in C.
use mathlib.Core.{Path.◌≡◌, Bool.cond, List.List, List.[], List.◌∷◌, List.◌++◌, List.map}
use Rattle.std.specs.Prelude.{ℕ, ◌+◌, ◌*◌, ◌%◌, ◌^◌, ◌<◌, ◌≤◌, Result, Ok, Err}
use lib.{Dec.ltb, Dec.eqb, IntN.ℤ, IntN.pos, ListN.length, ListN.drop}
use Rattle.job.specs.{Header.count, Refusal.Check, Refusal.first_refusal, Refusal.Decides, Refused.number_of, Refused.row_of, declared.Header.Header, declared.refusals.Refused.Refused}
use Rattle.header.specs.Header.{header_of}
use Rattle.frame.specs.Frame.{frame_refusal, FrameWritten}
use Rattle.state.specs.declared.State.{State}
use Rattle.evaluator.specs.Evaluator.{loaded, advanced}
use Rattle.running_sums.specs.RunningSums.{sums_written, sums_list, SumsWritten}
use Rattle.trace.specs.{Trace.digit_list, Trace.trace_checks, Trace.trace_refusal, Trace.trace_record, Trace.record_answer, Trace.trace_writer_answer, Trace.trace_writer_buffer, Trace.TraceWritten, declared.Record.Record}
use Rattle.accuracy.specs.Accuracy.{Call, additions_made}
use Rattle.calls.specs.Promise.{Promise, Evaluated}

-- ---- answers: a refusal, a row and a count in one number, of a loaded frame its scale too, and of an
-- evaluation its additions

-- a count, a scale and additions go with no refusal only
abbrev pub if_accepted : (refusal number : ℕ) → ℕ
if_accepted refusal number = cond (eqb refusal 0) number 0

-- 8 bits for the refusal, 8 for the row, 24 for the count
abbrev pub answer_of : (refusal row count : ℕ) → ℕ
answer_of refusal row count = refusal % 256 + 256 * (row % 256) + 65536 * (if_accepted refusal count % 2 ^ 24)

-- and the uppermost 8 for the scale
abbrev pub scaled_answer_of : (refusal row count scale : ℕ) → ℕ
scaled_answer_of refusal row count scale = answer_of refusal row count + 2 ^ 56 * (if_accepted refusal scale % 256)

-- with 16 below it for the additions
abbrev pub counted_answer_of : (refusal row count additions scale : ℕ) → ℕ
counted_answer_of refusal row count additions scale =
    scaled_answer_of refusal row count scale + 2 ^ 40 * (if_accepted refusal additions % 2 ^ 16)

-- what a result with a count comes to: the count, or the refusal and its row
abbrev pub result_answer : Result ℕ Refused → ℕ
result_answer (Ok n) = answer_of 0 0 n
result_answer (Err e) = answer_of (number_of e) (row_of e) 0

-- ---- em_check_frame: how many numbers a frame that loads has, and its scale

unfoldable pub check_answer : (frame : List ℕ) → ℕ
check_answer frame =
    scaled_answer_of (loaded frame).refusal (loaded frame).row (count (header_of frame)) (loaded frame).state.scale

-- ---- em_evaluate: the promise of `evaluate` for one advance. The count is the steps made

pub record Evaluates (frame : List ℕ) (budget : ℕ) (given : List ℤ) (r : ℕ) (left : List ℤ) : Type 0 where
  pub evaluated : Evaluated
  pub promise : Promise frame (budget ∷ []) given evaluated left
  pub answer : r ≡ counted_answer_of evaluated.refusal evaluated.row evaluated.made evaluated.additions evaluated.scale

-- no additions are cut: 16 bits are enough for those of every job
abbrev pub AdditionsFit : Type 0
AdditionsFit = (frame : List ℕ) (calls : List Call) → frame_refusal frame ≡ 0 → additions_made frame calls < 2 ^ 16

-- ---- em_write_frame: what the frame writer answers and leaves. The count is the frame's bytes

abbrev pub header : (kind code p f n m : ℕ) → Header
header kind code p f n m = record { kind = kind; code = code; p = p; f = f; n = n; m = m }

abbrev pub frame_answer : FrameWritten → ℕ
frame_answer w = answer_of w.refusal w.row w.length

-- ---- em_running_sums and em_write_trace: refused as load is; else a call on the job's state after an
-- advance

-- a refused advance leaves the state as it is
abbrev pub job_state : (frame : List ℕ) (budget : ℕ) → State
job_state frame budget = (advanced (loaded frame).state budget).state

-- ---- em_running_sums: the running sums of that state. The count is the words

abbrev pub sums_answer : SumsWritten → ℕ
sums_answer w = answer_of w.refusal 0 w.count

unfoldable pub job_sums_answer : (frame : List ℕ) (budget room : ℕ) → ℕ
job_sums_answer frame budget room =
    cond (eqb (loaded frame).refusal 0) (sums_answer (sums_written (job_state frame budget) room))
    (answer_of (loaded frame).refusal (loaded frame).row 0)

unfoldable pub job_sums_list : (frame : List ℕ) (budget : ℕ) (words : List ℤ) → List ℤ
job_sums_list frame budget words = cond (eqb (loaded frame).refusal 0) (sums_list (job_state frame budget) words) words

-- ---- em_write_trace: the record of that state is written. The count is the trace's bytes

abbrev pub trace_answer : TraceWritten → ℕ
trace_answer w = answer_of w.refusal 0 w.length

unfoldable pub job_record : (frame : List ℕ) (budget : ℕ) → Record
job_record frame budget = (record_answer (job_state frame budget)).trace

unfoldable pub job_trace_answer : (frame : List ℕ) (budget room : ℕ) → ℕ
job_trace_answer frame budget room =
    cond (eqb (loaded frame).refusal 0) (trace_answer (trace_writer_answer (job_record frame budget) room))
    (answer_of (loaded frame).refusal (loaded frame).row 0)

unfoldable pub job_trace_buffer : (frame : List ℕ) (budget : ℕ) (out : List ℕ) → List ℕ
job_trace_buffer frame budget out = cond (eqb (loaded frame).refusal 0) (trace_writer_buffer (job_record frame budget) out) out

-- ---- em_read_trace: the words of a trace are its header's fields, the steps made, and the digits step by
-- step and in a step row by row. The count is the words

abbrev pub header_words : (h : Header) (k : ℕ) → List ℕ
header_words h k = h.kind ∷ h.code ∷ h.p ∷ h.f ∷ h.n ∷ h.m ∷ k ∷ []

abbrev pub words_of : (h : Header) (k : ℕ) (digits : List ℤ) → List ℤ
words_of h k digits = map pos (header_words h k) ++ digit_list h.n k digits

abbrev pub word_count : (h : Header) (k : ℕ) → ℕ
word_count h k = 7 + h.n * k

-- those of the record that a trace holds
abbrev pub trace_words : (trace : List ℕ) → List ℤ
trace_words s = words_of (trace_record s).header (trace_record s).k (trace_record s).digits

abbrev pub trace_word_count : (trace : List ℕ) → ℕ
trace_word_count s = word_count (trace_record s).header (trace_record s).k

-- refused as the trace is, then by 23
unfoldable pub words_checks : (trace : List ℕ) (room : ℕ) → List Check
words_checks s room = trace_checks s ++ ((23, ltb room (trace_word_count s)) ∷ [])

abbrev pub words_refusal : (trace : List ℕ) (room : ℕ) → ℕ
words_refusal s room = first_refusal (words_checks s room)

unfoldable pub words_answer : (trace : List ℕ) (room : ℕ) → ℕ
words_answer s room = answer_of (words_refusal s room) 0 (trace_word_count s)

-- the words, and those past them as they were; with a refusal all words as they were
unfoldable pub words_left : (trace : List ℕ) (given : List ℤ) → List ℤ
words_left s given =
    cond (eqb (words_refusal s (length given)) 0) (trace_words s ++ drop (trace_word_count s) given) given

-- Demand 1, of em_read_trace. The other calls refuse as the calls do that they are made of.
abbrev pub WordsDecided : Type 0
WordsDecided = (s : List ℕ) (room : ℕ) → Decides (words_checks s room) (words_refusal s room)

-- room for every trace: seven words, and a digit in each of 60 steps for each of 16 rows
abbrev pub most_words : ℕ
most_words = 967

abbrev pub WordsEnough : Type 0
WordsEnough = (s : List ℕ) → trace_refusal s ≡ 0 → trace_word_count s ≤ most_words
