-- Proofs of what is promised of job frames, one for each statement of specs/Theorems.antt.
use mathlib.Core.Path.{◌≡◌, refl, sym, ap, ap₂, ◌∙◌}
use mathlib.Core.Bool.{not}
use mathlib.Core.List.{List, ◌++◌}
use Prim.Native.Nat.{ℕ, ◌≤◌}
use native.Mathlib.Omega.{arith}
use borrow.Author.Tests.{eq-eqb, ne_eqb}
use lib.IntN.{ℤ}
use lib.ListN.{length, drop}
use lib.Seq.{drop_at}
use Rattle.integers.specs.Sum.{weight}
use Rattle.bitfields.specs.Layout.{bits, bytes_for, write, written}
use Rattle.bitfields.proofs.Writing.{drop-written}
use Rattle.job.specs.Header.{count, Limits}
use Rattle.job.specs.Kind.{kind_of}
use Rattle.job.proofs.Limits.{count_most}
use Rattle.job.proofs.Refusal.{decided, refused_gives, either}
use Rattle.system.specs.Rows.{light_enough}
use Rattle.system.specs.System.{right_side, matrix_of, right_side_of}
use Rattle.system.proofs.Numbers.{right_place-most}
use Rattle.scale.proofs.Smallest.{scale-smallest}
use Rattle.job.specs.declared.Header.{Header}
use Rattle.system.proofs.FirstRow.{first_row_is}
use Rattle.header.specs.Header.{header_of}
use Rattle.frame.specs.Frame.{frame_fields, frame_length, most_bytes, frame_numbers, frame_checks, frame_refusal, frame_reader_checks, frame_reader_refusal, frame_reader_answer, frame_reader_list, frame_writer_checks, frame_writer_refusal, frame_writer_answer, frame_writer_buffer}
use Rattle.frame.specs.Theorems.{FrameDecided, FrameReaderDecided, FrameWriterDecided, FrameRowsGiven, FrameScale, FrameRoom, FrameReaderKeeps, FrameWriterKeeps, FrameListPast, FrameBufferPast, FrameReadWrite, FrameWriteRead}
use Rattle.frame.proofs.Valid.{numbers-counted, frame_bits-most, accepted-frame, frame_reader_accepted, frame_writer_accepted}
use Rattle.frame.proofs.Verdicts.{number-most}
use Rattle.frame.proofs.RoundTrip.{bits-frame, write_laid, header-written, numbers-written, frame_length-written, frame-written-accepted}

-- ---- demand 1: the checks decide

pub frame_decided : FrameDecided
unfolding frame_checks
frame_decided s = decided (frame_checks s) tt

pub frame_reader_decided : FrameReaderDecided
unfolding frame_reader_checks frame_checks
frame_reader_decided s room = decided (frame_reader_checks s room) tt

pub frame_writer_decided : FrameWriterDecided
unfolding frame_writer_checks
frame_writer_decided h v room = decided (frame_writer_checks h v room) tt

pub frame-rows : FrameRowsGiven
frame-rows h v =
    record {
      heavy = λ i. first_row_is (λ i. not (light_enough h (weight h.n (matrix_of h v i)))) h.n i;
      others = λ c a. rw (ne_eqb c 8 a);
    }

-- ---- the scale

pub frame-scale : FrameScale
unfolding right_side
frame-scale s e =
    let a = ((accepted-frame s).0 e).valid in
    let h = header_of s in
    let small = scale-smallest h (right_side_of h (frame_numbers s))
    (λ i l. number-most h (frame_numbers s) a.fit _ (rw a.counted (right_place-most h.kind h.n i a.limits.kind_most l))) in
    record { smallest = small; limits = record { scale_most = small.most; last_most = a.steps } }

-- ---- the room that is always enough

pub frame_length-most : {h : Header} → Limits h → frame_length h ≤ most_bytes
frame_length-most l = omega (arith, frame_bits-most l)

pub frame-room : FrameRoom
frame-room =
    record {
      numbers = λ {h} l. count_most (kind_of h.kind) h.n l.order_most;
      bytes = frame_length-most;
      longest = refl;
    }

-- ---- what a refusal leaves

pub frame_reader_keeps : FrameReaderKeeps
unfolding frame_reader_list frame_reader_answer
frame_reader_keeps s out p =
    (refused_gives (frame_reader_refusal s (length out)) _ _ p, refused_gives (frame_reader_refusal s (length out)) _ _ p)

pub frame_writer_keeps : FrameWriterKeeps
unfolding frame_writer_buffer frame_writer_answer
frame_writer_keeps h v out p =
    (refused_gives (frame_writer_refusal h v (length out)) _ _ p, refused_gives (frame_writer_refusal h v (length out)) _ _ p)

-- ---- words past the numbers and bytes past the frame

pub frame-list_past : FrameListPast
unfolding frame_reader_list
frame-list_past s out =
    either (frame_reader_refusal s (length out)) (drop (count (header_of s)))
    (λ e. drop_at (frame_numbers s) _ (count (header_of s)) (numbers-counted s)) refl

taken-bits : (h : Header) (v : List ℤ) (room : ℕ) → frame_writer_refusal h v room ≡ 0 → bytes_for (bits (frame_fields h v)) ≡ frame_length h
taken-bits h v room e = ap bytes_for (bits-frame h v ((frame_writer_accepted h v room).0 e).0.counted)

pub frame-buffer_past : FrameBufferPast
unfolding frame_writer_buffer
frame-buffer_past h v out =
    either (frame_writer_refusal h v (length out)) (drop (frame_length h))
    (λ e. rw (taken-bits h v (length out) e) at (drop-written out (frame_fields h v))) refl

-- ---- demand 2: the round trips

-- without a refusal the numbers, or the frame, stand before what was past them
taken-list : (s : List ℕ) (out : List ℤ) → frame_reader_refusal s (length out) ≡ 0
    → frame_reader_list s out ≡ frame_numbers s ++ drop (count (header_of s)) out
unfolding frame_reader_list
taken-list s out e = rw (eq-eqb (frame_reader_refusal s (length out)) 0 e)

taken-buffer : (h : Header) (v : List ℤ) (out : List ℕ) → frame_writer_refusal h v (length out) ≡ 0
    → frame_writer_buffer h v out ≡ write (frame_fields h v) ++ drop (frame_length h) out
unfolding frame_writer_buffer written
taken-buffer h v out e =
    rw (eq-eqb (frame_writer_refusal h v (length out)) 0 e)
    (ap (λ (n : ℕ). write (frame_fields h v) ++ drop n out) (taken-bits h v (length out) e))

pub frame_read_write : FrameReadWrite
frame_read_write s k e =
    let a = (accepted-frame s).0 e in
    let same = write_laid k a.layout in
    record {
      bytes = same;
      taken = λ room l. (frame_writer_accepted (header_of s) (frame_numbers s) room).1 (a.valid, rw a.layout.size at l);
      buffer = λ out l.
          taken-buffer (header_of s) (frame_numbers s) out
          ((frame_writer_accepted (header_of s) (frame_numbers s) (length out)).1 (a.valid, rw a.layout.size at l))
          ∙ ap₂ (λ (t : List ℕ) (n : ℕ). t ++ drop n out) same (sym a.layout.size);
    }

-- the reader takes what was written
written-taken : (h : Header) (s : List ℕ) (room : ℕ) → frame_refusal s ≡ 0 → header_of s ≡ h → count h ≤ room → frame_reader_refusal s room ≡ 0
written-taken h s room e g l = (frame_reader_accepted s room).1 (e, rw (ap count g) l)

written-answer : (h : Header) (s : List ℕ) (room : ℕ) → header_of s ≡ h → frame_reader_refusal s room ≡ 0
    → frame_reader_answer s room ≡ record { refusal = 0; row = 0; header = h }
unfolding frame_reader_answer
written-answer h s room g z = rw z (ap (λ (g : Header). record { refusal = 0; row = 0; header = g }) g)

pub frame-write_read : FrameWriteRead
frame-write_read h v room e =
    let a = ((frame_writer_accepted h v room).0 e).0 in
    let s = write (frame_fields h v) in
    let accepted = (accepted-frame s).1 (frame-written-accepted a) in
    let header = header-written a in
    record {
      accepted = accepted;
      header = header;
      numbers = numbers-written a;
      size = frame_length-written a;
      answer = λ r l. written-answer h s r header (written-taken h s r accepted header l);
      list = λ out l.
          taken-list s out (written-taken h s (length out) accepted header l)
          ∙ ap₂ (λ (x : List ℤ) (g : Header). x ++ drop (count g) out) (numbers-written a) header;
    }
