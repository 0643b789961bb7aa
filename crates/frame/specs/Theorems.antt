-- What is promised of job frames. By their contracts the frame reader and the frame writer answer and leave
-- what the definitions of Frame.antt say, whatever they are given, so each statement is one about the two
-- calls. proofs/Theorems.antt and, of what is accepted, proofs/Valid.antt have a proof of each.
use mathlib.Core.{Path.◌≡◌, Bool.true, Bool.not, List.List, List.◌++◌, Logic.◌↔◌}
use Rattle.std.specs.Prelude.{ℕ, suc, ◌*◌, ◌<◌, ◌≤◌}
use lib.{IntN.ℤ, ListN.length, ListN.drop}
use Rattle.integers.specs.Sum.{weight}
use Rattle.bitfields.specs.{Layout.Bytes, Layout.field, Layout.fill, Layout.write, Twos.AllFit}
use Rattle.job.specs.{Header.digit_bits, Header.number_bits, Header.count, Header.zero_header, Header.Limits, Refusal.Decides, Rules.last_step, Rules.ScaleLimits, declared.Header.Header, Kind.most_numbers}
use Rattle.system.specs.{Rows.light_enough, Rows.FirstRowIs, System.matrix_of, System.right_side_of}
use Rattle.scale.specs.Scale.{Smallest, job_scale}
use Rattle.header.specs.Header.{header_of}
use Rattle.frame.specs.Frame.{frame_fields, frame_bits, frame_length, most_bytes, frame_numbers, frame_checks, frame_refusal, frame_row, frame_reader_checks, frame_reader_refusal, frame_reader_answer, frame_reader_list, frame_writer_checks, frame_writer_refusal, frame_writer_answer, frame_writer_buffer}

-- ---- demand 1: the checks decide

abbrev pub FrameDecided : Type 0
FrameDecided = (s : List ℕ) → Decides (frame_checks s) (frame_refusal s)

abbrev pub FrameReaderDecided : Type 0
FrameReaderDecided = (s : List ℕ) (room : ℕ) → Decides (frame_reader_checks s room) (frame_reader_refusal s room)

abbrev pub FrameWriterDecided : Type 0
FrameWriterDecided =
    (h : Header) (v : List ℤ) (room : ℕ) → Decides (frame_writer_checks h v room) (frame_writer_refusal h v room)

-- The row given with 8 is the first that breaks the rule, counted from 1; else it is 0.
pub record FrameRows (h : Header) (v : List ℤ) : Type 0 where
  pub heavy : (i : ℕ)
      → (frame_row 8 h v ≡ suc i) ↔ FirstRowIs h.n (λ i. not (light_enough h (weight h.n (matrix_of h v i)))) i
  pub others : (c : ℕ) → (c ≡ 8 → ⊥) → frame_row c h v ≡ 0

abbrev pub FrameRowsGiven : Type 0
FrameRowsGiven = (h : Header) (v : List ℤ) → FrameRows h v

-- ---- what is accepted, as facts

-- 1 to 7 leave: a header within the limits, the length that the fields demand, and filling bits that are 0
pub record PassesLayout (s : List ℕ) : Type 0 where
  pub limits : Limits (header_of s)
  pub size : length s ≡ frame_length (header_of s)
  pub zeros : field s (frame_bits (header_of s)) (fill (frame_bits (header_of s))) ≡ 0

-- 2, 14, 3, 4, 5, 12, 13, 8 and 15 leave: a header within the limits, as many numbers as it demands, each of
-- which fits, rows that are light enough, and a scale whose steps 60 bits hold
pub record ValidJob (h : Header) (v : List ℤ) : Type 0 where
  pub limits : Limits h
  pub counted : length v ≡ count h
  pub fit : AllFit (number_bits h) v
  pub light : (i : ℕ) → i < h.n → light_enough h (weight h.n (matrix_of h v i)) ≡ true
  pub steps : last_step h (job_scale h v) * digit_bits h.code ≤ 60

-- 1 to 8 and 15 leave
pub record AcceptedFrame (s : List ℕ) : Type 0 where
  pub layout : PassesLayout s
  pub valid : ValidJob (header_of s) (frame_numbers s)

abbrev pub FrameAccepted : Type 0
FrameAccepted = (s : List ℕ) → (frame_refusal s ≡ 0) ↔ AcceptedFrame s

-- The scale of an accepted frame's job is the smallest that every right-hand side fits, and keeps its limits.
pub record FrameScaled (h : Header) (v : List ℤ) : Type 0 where
  pub smallest : Smallest h (right_side_of h v) (job_scale h v)
  pub limits : ScaleLimits h (job_scale h v)

abbrev pub FrameScale : Type 0
FrameScale = (s : List ℕ) → frame_refusal s ≡ 0 → FrameScaled (header_of s) (frame_numbers s)

-- the reader takes the accepted frames whose numbers its list has room for
abbrev pub FrameReaderAccepted : Type 0
FrameReaderAccepted =
    (s : List ℕ) (room : ℕ) → (frame_reader_refusal s room ≡ 0) ↔ ((frame_refusal s ≡ 0) × (count (header_of s) ≤ room))

-- the writer takes the valid jobs that its buffer has room for
abbrev pub FrameWriterAccepted : Type 0
FrameWriterAccepted =
    (h : Header) (v : List ℤ) (room : ℕ)
    → (frame_writer_refusal h v room ≡ 0) ↔ (ValidJob h v × (frame_length h ≤ room))

-- the room that is always enough, 272 numbers and 1,431 bytes, and a header that needs all of it
pub record FrameRoom : Type 0 where
  pub numbers : {h : Header} → Limits h → count h ≤ most_numbers
  pub bytes : {h : Header} → Limits h → frame_length h ≤ most_bytes
  pub longest : frame_length (record { kind = 2; code = 0; p = 1; f = 40; n = 16; m = 59 }) ≡ most_bytes

-- ---- demand 1: a refusal leaves every lent word and byte as it was, and gives zeros

abbrev pub FrameReaderKeeps : Type 0
FrameReaderKeeps =
    (s : List ℕ) (out : List ℤ) → 0 < frame_reader_refusal s (length out)
    → (frame_reader_list s out ≡ out) × ((frame_reader_answer s (length out)).header ≡ zero_header)

abbrev pub FrameWriterKeeps : Type 0
FrameWriterKeeps =
    (h : Header) (v : List ℤ) (out : List ℕ) → 0 < frame_writer_refusal h v (length out)
    → (frame_writer_buffer h v out ≡ out) × ((frame_writer_answer h v (length out)).length ≡ 0)

-- words past the numbers and bytes past the frame keep their values, whether or not there is a refusal
abbrev pub FrameListPast : Type 0
FrameListPast =
    (s : List ℕ) (out : List ℤ) → drop (count (header_of s)) (frame_reader_list s out) ≡ drop (count (header_of s)) out

abbrev pub FrameBufferPast : Type 0
FrameBufferPast =
    (h : Header) (v : List ℤ) (out : List ℕ)
    → drop (frame_length h) (frame_writer_buffer h v out) ≡ drop (frame_length h) out

-- ---- demand 2: the round trips

-- Every accepted frame, read and written, is the same bytes: those of its header and its numbers. The writer
-- takes these with any room of at least as many bytes, and its buffer then holds the frame.
pub record FrameReadWritten (s : List ℕ) : Type 0 where
  pub bytes : write (frame_fields (header_of s) (frame_numbers s)) ≡ s
  pub taken : (room : ℕ) → length s ≤ room → frame_writer_refusal (header_of s) (frame_numbers s) room ≡ 0
  pub buffer : (out : List ℕ) → length s ≤ length out
      → frame_writer_buffer (header_of s) (frame_numbers s) out ≡ s ++ drop (length s) out

abbrev pub FrameReadWrite : Type 0
FrameReadWrite = (s : List ℕ) → Bytes s → frame_refusal s ≡ 0 → FrameReadWritten s

-- Everything that the writer takes, written and read, is the same header and numbers: the bytes s are an
-- accepted frame, the reader answers the header, and its list then holds the numbers.
pub record FrameWrittenRead (h : Header) (v : List ℤ) (s : List ℕ) : Type 0 where
  pub accepted : frame_refusal s ≡ 0
  pub header : header_of s ≡ h
  pub numbers : frame_numbers s ≡ v
  pub size : length s ≡ frame_length h
  pub answer : (room : ℕ) → count h ≤ room → frame_reader_answer s room ≡ record { refusal = 0; row = 0; header = h }
  pub list : (out : List ℤ) → count h ≤ length out → frame_reader_list s out ≡ v ++ drop (count h) out

abbrev pub FrameWriteRead : Type 0
FrameWriteRead =
    (h : Header) (v : List ℤ) (room : ℕ) → frame_writer_refusal h v room ≡ 0
    → FrameWrittenRead h v (write (frame_fields h v))
