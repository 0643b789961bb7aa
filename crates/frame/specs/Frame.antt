-- Job frames (document 01, "Job frame" and "Refused because of the input"): the layout, the condition of each
-- refusal, and what the frame reader and the frame writer answer and leave.
use mathlib.Core.{Bool.Bool, Bool.true, Bool.not, Bool.cond, Bool.◌&&◌, List.List, List.[], List.◌∷◌, List.◌++◌, List.map}
use Rattle.std.specs.Prelude.{ℕ, ◌+◌, ◌*◌, Result, Ok, Err}
use lib.{Dec.ltb, Dec.eqb, IntN.ℤ, ListN.length, ListN.drop}
use Rattle.bitfields.specs.{Layout.Field, Layout.each, Layout.field, Layout.fill, Layout.bytes_for, Layout.written, Twos.encode, Twos.fitsb, Twos.numbers}
use Rattle.job.specs.{Header.number_bits, Header.count, Header.read_checks, Header.header_checks, Header.zero_header, Refusal.Check, Refusal.first_refusal, Refused.number_of, Refused.row_of, Rules.scaled_steps_out_of_range, declared.Header.Header, declared.refusals.Refused.Refused}
use Rattle.system.specs.{Rows.heavy_row, System.matrix_of}
use Rattle.scale.specs.Scale.{job_scale}
use Rattle.header.specs.Header.{header_fields, header_bits, header_of}

-- ---- the layout

-- the header, then the numbers, each in f + 2 bits in two's complement
abbrev pub frame_fields : Header → List ℤ → List Field
frame_fields h v = header_fields h ++ each (number_bits h) (map (encode (number_bits h)) v)

-- how many bits and bytes the fields demand
abbrev pub frame_bits : Header → ℕ
frame_bits h = header_bits + number_bits h * count h

abbrev pub frame_length : Header → ℕ
frame_length h = bytes_for (frame_bits h)

-- the most bytes of a frame, those of a system of order 16 with f = 40
abbrev pub most_bytes : ℕ
most_bytes = 1431

-- the numbers that a frame holds
abbrev pub frame_numbers : List ℕ → List ℤ
frame_numbers s = numbers s header_bits (number_bits (header_of s)) (count (header_of s))

-- ---- a frame's refusals, 1 to 8 and 15

-- 1: not even a header
abbrev pub frame_too_short : List ℕ → Bool
frame_too_short s = ltb (length s) (bytes_for header_bits)

-- 6
abbrev pub frame_wrong_length : List ℕ → Bool
frame_wrong_length s = not (eqb (length s) (frame_length (header_of s)))

-- 7
abbrev pub frame_fill_bit_set : List ℕ → Bool
frame_fill_bit_set s = not (eqb (field s (frame_bits (header_of s)) (fill (frame_bits (header_of s)))) 0)

-- 1 to 7: what the bits alone decide
abbrev pub layout_checks : List ℕ → List Check
layout_checks s =
    (1, frame_too_short s) ∷ read_checks (header_of s) ++ ((6, frame_wrong_length s) ∷ (7, frame_fill_bit_set s) ∷ [])

-- 8 and 15, of a header and numbers: a row too heavy, and more than 60 bits of steps at the job's scale
abbrev pub number_checks : Header → List ℤ → List Check
number_checks h v =
    (8, ltb 0 (heavy_row h (matrix_of h v))) ∷ (15, scaled_steps_out_of_range h (job_scale h v)) ∷ []

unfoldable pub frame_checks : List ℕ → List Check
frame_checks s = layout_checks s ++ number_checks (header_of s) (frame_numbers s)

-- the number that a frame is refused by, 0 where it is accepted
abbrev pub frame_refusal : List ℕ → ℕ
frame_refusal s = first_refusal (frame_checks s)

-- the row given with a number c: the first heavy row with 8, and 0 with every other number
abbrev pub frame_row : (c : ℕ) → Header → List ℤ → ℕ
frame_row c h v = cond (eqb c 8) (heavy_row h (matrix_of h v)) 0

-- ---- the frame reader: 1 to 8, 15, then 23. It is lent a list of `room` words

-- 23
abbrev pub number_list_too_short : List ℕ → ℕ → Bool
number_list_too_short s room = ltb room (count (header_of s))

unfoldable pub frame_reader_checks : List ℕ → ℕ → List Check
frame_reader_checks s room = frame_checks s ++ ((23, number_list_too_short s room) ∷ [])

abbrev pub frame_reader_refusal : List ℕ → ℕ → ℕ
frame_reader_refusal s room = first_refusal (frame_reader_checks s room)

-- what the reader answers in document 01's numbers: a refusal number, 0 where there is none, the row given with
-- it, and the header's fields
pub record FrameRead : Type 0 where
  pub refusal : ℕ
  pub row : ℕ
  pub header : Header

-- what its result says in these numbers
abbrev pub frame_read : Result Header Refused → FrameRead
frame_read (Ok h) = record { refusal = 0; row = 0; header = h }
frame_read (Err e) = record { refusal = number_of e; row = row_of e; header = zero_header }

-- the fields; with a refusal a header of zeros
unfoldable pub frame_reader_answer : List ℕ → ℕ → FrameRead
frame_reader_answer s room =
    record {
      refusal = frame_reader_refusal s room;
      row = frame_row (frame_reader_refusal s room) (header_of s) (frame_numbers s);
      header = cond (eqb (frame_reader_refusal s room) 0) (header_of s) zero_header;
    }

-- the numbers as sent, and the words past the last as they were; with a refusal all words as they were
unfoldable pub frame_reader_list : List ℕ → List ℤ → List ℤ
frame_reader_list s out =
    cond (eqb (frame_reader_refusal s (length out)) 0) (frame_numbers s ++ drop (count (header_of s)) out) out

-- ---- the frame writer: 2, 14, 3, 4, 5, 12, 13, 8, 15, 23. It takes any header and numbers, and `room` bytes

-- 12
abbrev pub wrong_count : Header → List ℤ → Bool
wrong_count h v = not (eqb (length v) (count h))

-- 13
unfoldable pub all_fit : ℕ → List ℤ → Bool
all_fit w [] = true
all_fit w (z ∷ v) = fitsb w z && all_fit w v

abbrev pub number_too_wide : Header → List ℤ → Bool
number_too_wide h v = not (all_fit (number_bits h) v)

-- 23
abbrev pub frame_buffer_too_short : Header → ℕ → Bool
frame_buffer_too_short h room = ltb room (frame_length h)

-- 12, 13, 8, 15: what the writer looks at in the numbers
abbrev pub sent_checks : Header → List ℤ → List Check
sent_checks h v = (12, wrong_count h v) ∷ (13, number_too_wide h v) ∷ number_checks h v

unfoldable pub frame_writer_checks : Header → List ℤ → ℕ → List Check
frame_writer_checks h v room = header_checks h ++ sent_checks h v ++ ((23, frame_buffer_too_short h room) ∷ [])

abbrev pub frame_writer_refusal : Header → List ℤ → ℕ → ℕ
frame_writer_refusal h v room = first_refusal (frame_writer_checks h v room)

-- what the writer answers in document 01's numbers: a refusal number, 0 where there is none, the row given with
-- it, and the number of bytes
pub record FrameWritten : Type 0 where
  pub refusal : ℕ
  pub row : ℕ
  pub length : ℕ

-- what its result says in these numbers
abbrev pub frame_written : Result ℕ Refused → FrameWritten
frame_written (Ok n) = record { refusal = 0; row = 0; length = n }
frame_written (Err e) = record { refusal = number_of e; row = row_of e; length = 0 }

-- the number of bytes, 0 when refused
unfoldable pub frame_writer_answer : Header → List ℤ → ℕ → FrameWritten
frame_writer_answer h v room =
    record {
      refusal = frame_writer_refusal h v room;
      row = frame_row (frame_writer_refusal h v room) h v;
      length = cond (eqb (frame_writer_refusal h v room) 0) (frame_length h) 0;
    }

-- the frame, and the bytes past it as they were; with a refusal all bytes as they were
unfoldable pub frame_writer_buffer : Header → List ℤ → List ℕ → List ℕ
frame_writer_buffer h v out =
    cond (eqb (frame_writer_refusal h v (length out)) 0) (written out (frame_fields h v)) out
