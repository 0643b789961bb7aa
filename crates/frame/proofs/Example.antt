-- The statements on frames at work on document 01's case D, and on A and E with an x of 3: from each
-- statement alone, every field of it gives a number, a list of numbers or the bytes of a frame.
use mathlib.Core.Path.{◌≡◌, refl}
use mathlib.Core.Bool.{false, not}
use mathlib.Core.List.{List, [], ◌∷◌}
use Prim.Native.Nat.{ℕ, ◌<◌, ◌≤◌}
use native.Mathlib.Omega.{arith}
use borrow.Author.Tests.{not-true}
use lib.Dec.{leb}
use lib.IntN.{ℤ, pos}
use lib.ListN.{length}
use Rattle.integers.specs.Sum.{weight, total}
use Rattle.bitfields.specs.Layout.{Bytes, field, number, bits, values_from, octets, pack, write}
use Rattle.bitfields.specs.Twos.{decode, encode, fitsb}
use Rattle.bitfields.proofs.Writing.{bytes-write}
use Rattle.job.specs.Header.{count, Limits}
use Rattle.job.proofs.Limits.{limits_exactly}
use Rattle.system.specs.Rows.{light_enough, first_row_from, FirstRowIs}
use Rattle.system.specs.System.{matrix, curve_entry, right_side, matrix_of}
use Rattle.job.specs.declared.Header.{Header}
use Rattle.scale.specs.Scale.{every}
use Rattle.header.specs.Header.{header_of}
use Rattle.frame.specs.Frame.{frame_fields, frame_length, frame_numbers, frame_checks, frame_refusal, frame_row, frame_reader_answer, frame_reader_list, all_fit, frame_writer_checks, frame_writer_refusal, frame_writer_buffer}
use Rattle.frame.specs.Theorems.{FrameRowsGiven, FrameScale, FrameRoom, FrameReadWrite, FrameWriteRead}
use Rattle.frame.proofs.Theorems.{frame-rows, frame-scale, frame-room, frame_read_write, frame-write_read}

-- case A with the x of 3 that document 02 gives it, as A's own frame is refused by 8: the frame, its header
-- and its numbers, x, p_0 and p_1; x is 5 in D
unfoldable pub bytes_A : List ℕ
bytes_A = 0x01 ∷ 0x10 ∷ 0x44 ∷ 0x0c ∷ 0x32 ∷ 0x00 ∷ []

abbrev pub header_A : Header
header_A = record { kind = 0; code = 0; p = 1; f = 4; n = 2; m = 4 }

abbrev pub sent_A : List ℤ
sent_A = pos 3 ∷ pos 3 ∷ pos 8 ∷ []

abbrev pub sent_D : List ℤ
sent_D = pos 5 ∷ pos 3 ∷ pos 8 ∷ []

-- ---- what the definitions give

spelt_A : write (frame_fields header_A sent_A) ≡ bytes_A
unfolding bytes_A number bits octets pack encode
spelt_A = refl

all_bytes_A : Bytes bytes_A
all_bytes_A = rw spelt_A at (bytes-write (frame_fields header_A sent_A))

accepted_A : frame_refusal bytes_A ≡ 0
unfolding bytes_A frame_checks field number bits values_from decode curve_entry matrix right_side first_row_from weight total every
accepted_A = refl

taken_A : frame_writer_refusal header_A sent_A 6 ≡ 0
unfolding frame_writer_checks all_fit fitsb curve_entry matrix right_side first_row_from weight total every
taken_A = refl

limits_A : Limits header_A
limits_A = (limits_exactly header_A).0 refl

-- row 1 of D is the first that is too heavy: 64 times its weight of 5 is above 240
heavy_D : FirstRowIs 2 (λ i. not (light_enough header_A (weight 2 (matrix_of header_A sent_D i)))) 0
unfolding curve_entry matrix weight total
heavy_D = record { inside = omega arith; here = refl; before = record { never = λ j l. absurd (omega (arith, l)) } }

-- E with the x of 3 too, which is A with p_0 9: its right-hand sides are 9 and 8
unfoldable pub bytes_E : List ℕ
bytes_E = 0x01 ∷ 0x10 ∷ 0x44 ∷ 0x0c ∷ 0x92 ∷ 0x00 ∷ []

accepted_E : frame_refusal bytes_E ≡ 0
unfolding bytes_E frame_checks field number bits values_from decode curve_entry matrix right_side first_row_from weight total every
accepted_E = refl

-- ---- what the statements give

module _ (holds : FrameReadWrite) where
  -- A, read and written, is A; six bytes are room enough, and of eight the last two stay
  frame_read_write_A : (write (frame_fields header_A sent_A) ≡ bytes_A) × (frame_writer_refusal header_A sent_A 6 ≡ 0)
      × (frame_writer_buffer header_A sent_A (9 ∷ 9 ∷ 9 ∷ 9 ∷ 9 ∷ 9 ∷ 8 ∷ 7 ∷ [])
      ≡ 0x01 ∷ 0x10 ∷ 0x44 ∷ 0x0c ∷ 0x32 ∷ 0x00 ∷ 8 ∷ 7 ∷ [])
  unfolding bytes_A field number bits values_from decode
  frame_read_write_A = let x = holds bytes_A all_bytes_A accepted_A in (x.bytes, x.taken 6 (omega arith), x.buffer _ (omega arith))

module _ (holds : FrameWriteRead) where
  -- what A's header and numbers are written as is six bytes, A's, and read they are these again
  frame-write_read_A : (frame_refusal bytes_A ≡ 0) × (header_of bytes_A ≡ header_A) × (frame_numbers bytes_A ≡ sent_A)
      × (length bytes_A ≡ 6) × (frame_reader_answer bytes_A 3 ≡ record { refusal = 0; row = 0; header = header_A })
      × (frame_reader_list bytes_A (pos 9 ∷ pos 9 ∷ pos 9 ∷ pos 7 ∷ []) ≡ pos 3 ∷ pos 3 ∷ pos 8 ∷ pos 7 ∷ [])
  frame-write_read_A =
      let x = rw spelt_A at (holds header_A sent_A 6 taken_A) in
      (x.accepted, x.header, x.numbers, x.size, x.answer 3 (omega arith), x.list _ (omega arith))

module _ (holds : FrameRowsGiven) where
  -- row 1 is given with 8 of D, and 0 with every number above 8
  rows_A : (frame_row 8 header_A sent_D ≡ 1) × ((c : ℕ) → 8 < c → frame_row c header_A sent_D ≡ 0)
  rows_A = (((holds header_A sent_D).heavy 0).1 heavy_D, λ c l. (holds header_A sent_D).others c (λ e. omega (arith, e, l)))

  -- and a row that is given breaks the rule: 320 is not at most 240
  rules_A : leb 320 240 ≡ false
  unfolding curve_entry matrix weight total
  rules_A = not-true _ (((holds header_A sent_D).heavy 0).0 rows_A.0).here

module _ (holds : FrameScale) where
  -- the scale of E is 1: twice 9 is at most 32, and 6 steps are at most 60
  scale_E : (18 ≤ 32) × (6 ≤ 60)
  unfolding bytes_E field number bits values_from decode right_side every
  scale_E = let x = holds bytes_E accepted_E in (x.smallest.fit 0 (omega arith), x.limits.last_most)

module _ (holds : FrameRoom) where
  -- A's three numbers and six bytes are within the room that is always enough; the longest frame needs all
  room_A : (count header_A ≤ 272) × (frame_length header_A ≤ 1431)
      × (frame_length (record { kind = 2; code = 0; p = 1; f = 40; n = 16; m = 59 }) ≡ 1431)
  room_A = (holds.numbers limits_A, holds.bytes limits_A, holds.longest)

-- the statements are proved
pub frames_A : (frame_writer_refusal header_A sent_A 6 ≡ 0) × (frame_numbers bytes_A ≡ sent_A)
    × (frame_row 8 header_A sent_D ≡ 1) × (18 ≤ 32) × (count header_A ≤ 272)
frames_A =
    ((frame_read_write_A frame_read_write).1, (frame-write_read_A frame-write_read).2, (rows_A frame-rows).0, (scale_E frame-scale).0, (room_A frame-room).0)
