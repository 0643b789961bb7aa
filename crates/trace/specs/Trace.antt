-- Traces and records (document 01, "Trace" and "Refused because of the input"): the layout, the condition of
-- each refusal, and what the trace reader, the record of a state and the trace writer answer. The contracts
-- of these three calls are equalities with the definitions here; `Theorems` says what follows.
use mathlib.Core.{Path.◌≡◌, Bool.Bool, Bool.not, Bool.cond, Bool.◌&&◌, Bool.◌||◌, List.List, List.[], List.◌∷◌, List.◌++◌, List.map}
use Rattle.std.specs.Prelude.{ℕ, ◌+◌, ◌*◌, ◌/◌, ◌%◌, ◌<◌, ◌≤◌, Result, Ok, Err}
use lib.{Dec.ltb, Dec.eqb, IntN.ℤ, IntN.pos, IntN.nat_abs, ListN.length, ListN.replicate}
use Rattle.integers.specs.Flat.{at, entry, list_from}
use Rattle.bitfields.specs.{Layout.Field, Layout.each, Layout.field, Layout.fill, Layout.bytes_for, Layout.written, Twos.encode, Twos.numbers}
use Rattle.job.specs.{Header.trace_read_checks, Header.trace_header_checks, Header.zero_header, Header.Limits, Header.digit_bits, Header.past_60_bits, Refusal.Check, Refusal.first_refusal, Refused.number_of, Rules.trace_steps, declared.Header.Header, declared.refusals.Refused.Refused}
use Rattle.header.specs.Header.{header_fields, header_of}
use Rattle.state.specs.{State.state_checks, State.digit_places, State.digit_beyond, declared.State.State}
use Rattle.trace.specs.declared.Record.{Record}

-- ---- the layout

-- the digits of k steps of n rows, step by step and in a step row by row
unfoldable pub digit_list : (n k : ℕ) (ds : List ℤ) → List ℤ
digit_list n k ds = list_from 0 (n * k) (λ t. entry ds (t / n) (t % n))

-- the array that holds such a list, 16 places a step, with 0 past step k and past row n
unfoldable pub digit_array : (n k : ℕ) (v : List ℤ) → List ℤ
digit_array n k v =
    list_from 0 digit_places (λ t. cond (ltb (t / 16) k && ltb (t % 16) n) (at v (n * (t / 16) + t % 16)) (pos 0))

-- the job's first three bytes, the steps made in 6 bits, then digits of 5 bits in two's complement
abbrev pub trace_fields : (h : Header) (k : ℕ) (ds : List ℤ) → List Field
trace_fields h k ds = header_fields h ++ ((6, k) ∷ each 5 (map (encode 5) (digit_list h.n k ds)))

-- 24 bits of the header, 6 of the steps made, and the digits
abbrev pub trace_bits : Header → ℕ → ℕ
trace_bits h k = 30 + 5 * (h.n * k)

abbrev pub trace_length : Header → ℕ → ℕ
trace_length h k = bytes_for (trace_bits h k)

-- the steps made and the digits that a trace holds
abbrev pub steps_of : List ℕ → ℕ
steps_of s = field s 24 6

abbrev pub trace_digits : List ℕ → List ℤ
trace_digits s = digit_array (header_of s).n (steps_of s) (numbers s 30 5 ((header_of s).n * steps_of s))

-- ---- records

abbrev pub record_of : (h : Header) (k : ℕ) (ds : List ℤ) → Record
record_of h k ds = record { header = h; k = k; digits = ds }

-- a record of zeros goes with every refusal
unfoldable pub zero_record : Record
zero_record = record_of zero_header 0 (replicate digit_places (pos 0))

-- a record with 0 for the digits past step k and past row n
abbrev pub trimmed : Record → Record
trimmed t = record_of t.header t.k (digit_array t.header.n t.k (digit_list t.header.n t.k t.digits))

-- what the trace reader and the record of a state answer: the number of a refusal, 0 where there is none, and a
-- record, which is one of zeros with a refusal
pub record Recorded : Type 0 where
  pub refusal : ℕ
  pub trace : Record

-- what a result of one of the two says in these numbers
abbrev pub recorded : Result Record Refused → Recorded
recorded (Ok t) = record { refusal = 0; trace = t }
recorded (Err e) = record { refusal = number_of e; trace = zero_record }

abbrev pub record_fields : Record → List Field
record_fields t = trace_fields t.header t.k t.digits

-- a header within its limits, no more steps than a trace of the job may hold and than 60 bits hold, and no
-- digit beyond p
pub record ValidRecord (t : Record) : Type 0 where
  pub limits : Limits t.header
  pub steps : t.k ≤ trace_steps t.header
  pub bits : t.k * digit_bits t.header.code ≤ 60
  pub within : (j i : ℕ) → j < t.k → i < t.header.n → nat_abs (entry t.digits j i) ≤ t.header.p

-- ---- the trace reader: refused by 1 to 5, 10, 6, 7, 11

-- 1
abbrev pub trace_too_short : List ℕ → Bool
trace_too_short s = ltb (length s) 4

-- 10: k above m + 3, or k × log2(r) above 60. A trace does not tell its job's scale, so k is held to the
-- last step of a job of scale 2, and to 60 bits.
abbrev pub too_many_steps : Header → ℕ → Bool
too_many_steps h k = ltb (trace_steps h) k || past_60_bits h.code k

-- 6
abbrev pub trace_wrong_length : List ℕ → Bool
trace_wrong_length s = not (eqb (length s) (trace_length (header_of s) (steps_of s)))

-- 7
abbrev pub trace_fill_bit_set : List ℕ → Bool
trace_fill_bit_set s =
    not (eqb (field s (trace_bits (header_of s) (steps_of s)) (fill (trace_bits (header_of s) (steps_of s)))) 0)

unfoldable pub trace_checks : List ℕ → List Check
trace_checks s =
    (1, trace_too_short s) ∷ trace_read_checks (header_of s)
    ++ ((10, too_many_steps (header_of s) (steps_of s)) ∷ (6, trace_wrong_length s) ∷ (7, trace_fill_bit_set s)
    ∷ (11, digit_beyond (header_of s) (steps_of s) (trace_digits s)) ∷ [])

abbrev pub trace_refusal : List ℕ → ℕ
trace_refusal s = first_refusal (trace_checks s)

unfoldable pub trace_record : List ℕ → Record
trace_record s = record_of (header_of s) (steps_of s) (trace_digits s)

unfoldable pub trace_reader_answer : List ℕ → Recorded
trace_reader_answer s =
    record { refusal = trace_refusal s; trace = cond (eqb (trace_refusal s) 0) (trace_record s) zero_record }

-- bytes that spell a valid record: as long as its fields demand, with zeros to the byte
pub record AcceptedTrace (s : List ℕ) : Type 0 where
  pub size : length s ≡ trace_length (header_of s) (steps_of s)
  pub zeros : field s (trace_bits (header_of s) (steps_of s)) (fill (trace_bits (header_of s) (steps_of s))) ≡ 0
  pub valid : ValidRecord (trace_record s)

-- ---- the record of a state: refused by 20, 24

abbrev pub record_refusal : State → ℕ
record_refusal s = first_refusal (state_checks s)

unfoldable pub state_record : State → Record
state_record s = trimmed (record_of s.header s.k s.digits)

unfoldable pub record_answer : State → Recorded
record_answer s =
    record { refusal = record_refusal s; trace = cond (eqb (record_refusal s) 0) (state_record s) zero_record }

-- ---- the trace writer: refused by 2, 14, 3, 4, 5, 10, 11, 23. It takes any record, and is lent `room` bytes

-- 23
abbrev pub trace_buffer_too_short : Record → ℕ → Bool
trace_buffer_too_short t room = ltb room (trace_length t.header t.k)

unfoldable pub trace_writer_checks : Record → ℕ → List Check
trace_writer_checks t room =
    trace_header_checks t.header
    ++ ((10, too_many_steps t.header t.k) ∷ (11, digit_beyond t.header t.k t.digits)
    ∷ (23, trace_buffer_too_short t room) ∷ [])

abbrev pub trace_writer_refusal : Record → ℕ → ℕ
trace_writer_refusal t room = first_refusal (trace_writer_checks t room)

-- what the trace writer answers in numbers: that of a refusal, 0 where there is none, and that of the bytes
pub record TraceWritten : Type 0 where
  pub refusal : ℕ
  pub length : ℕ

-- what a result of the trace writer says in these numbers
abbrev pub trace_written : Result ℕ Refused → TraceWritten
trace_written (Ok n) = record { refusal = 0; length = n }
trace_written (Err e) = record { refusal = number_of e; length = 0 }

-- the number of bytes, 0 when refused
unfoldable pub trace_writer_answer : Record → ℕ → TraceWritten
trace_writer_answer t room =
    record {
      refusal = trace_writer_refusal t room;
      length = cond (eqb (trace_writer_refusal t room) 0) (trace_length t.header t.k) 0;
    }

-- the trace, and the bytes past it as they were; with a refusal all bytes as they were
unfoldable pub trace_writer_buffer : Record → List ℕ → List ℕ
trace_writer_buffer t out = cond (eqb (trace_writer_refusal t (length out)) 0) (written out (record_fields t)) out
