-- The round trips of frames: the bytes of an accepted frame are those of its header and numbers, and the
-- bytes of a valid job are an accepted frame that spells its header and its numbers. Each is a citation of
-- the bit fields' round trip with this format's widths.
use mathlib.Core.Path.{◌≡◌, ap, ◌∙◌}
use mathlib.Core.List.{List, [], ◌++◌, map, append-nil}
use Prim.Native.Nat.{ℕ, ◌+◌, ◌-◌}
use native.Mathlib.Omega.{arith}
use lib.IntN.{ℤ}
use lib.ListN.{length, replicate, length-map}
use Rattle.bitfields.specs.Layout.{bits, widths, total_width, Fit, none, Bytes, field, fields, Framed, write}
use Rattle.bitfields.specs.Twos.{encode, AllFit, numbers}
use Rattle.bitfields.proofs.Spelling.{bits_each, bytes_fit, fit_append, total_width_replicate, widths-each}
use Rattle.bitfields.proofs.Writing.{write_framed}
use Rattle.bitfields.proofs.RoundTrip.{fields-write, write-fields}
use Rattle.bitfields.proofs.Twos.{fit_encodes, fields-numbers, numbers_after}
use Rattle.job.specs.Header.{number_bits, count, Limits}
use Rattle.job.specs.declared.Header.{Header}
use Rattle.header.specs.Header.{header_bits, header_of}
use Rattle.header.proofs.Header.{header-widths, fit-header, header_spelled}
use Rattle.frame.specs.Frame.{frame_fields, frame_bits, frame_length, frame_numbers}
use Rattle.frame.specs.Theorems.{PassesLayout, ValidJob, AcceptedFrame}

-- ---- the layout as widths

abbrev pub frame-widths : Header → List ℕ
frame-widths h = header-widths ++ replicate (count h) (number_bits h)

frame-widths-sum : (h : Header) → total_width (frame-widths h) ≡ frame_bits h
unfolding total_width
frame-widths-sum h = rw (total_width_replicate (number_bits h) (count h)) (omega arith)

-- the fields of a frame are those of its header and its numbers
fields-frame : (s : List ℕ) → fields s 0 (frame-widths (header_of s)) ≡ frame_fields (header_of s) (frame_numbers s)
unfolding fields
fields-frame s =
    let e : field s 14 4 + 1 - 1 ≡ field s 14 4 = omega arith in
    rw (e, fields-numbers s header_bits (number_bits (header_of s)) (count (header_of s)))

module _ (h : Header) (v : List ℤ) (e : length v ≡ count h) where
  pub bits-frame : bits (frame_fields h v) ≡ frame_bits h
  unfolding bits
  bits-frame = rw (bits_each (number_bits h) (map (encode (number_bits h)) v), length-map v (encode (number_bits h)), e) (omega arith)

  widths-frame : widths (frame_fields h v) ≡ frame-widths h
  widths-frame = rw (widths-each (number_bits h) (map (encode (number_bits h)) v), length-map v (encode (number_bits h)), e)

fit-frame : {h : Header} {v : List ℤ} → Limits h → AllFit (number_bits h) v → Fit (frame_fields h v)
fit-frame l f = fit_append (fit-header l) (fit_encodes (omega arith) f)

-- ---- what was read is written

laid_framed : {s : List ℕ} → PassesLayout s → Framed (frame-widths (header_of s)) s
laid_framed {s} a = record { size = rw (frame-widths-sum (header_of s)) a.size; zeros = rw (frame-widths-sum (header_of s)) a.zeros }

pub write_laid : {s : List ℕ} → Bytes s → PassesLayout s → write (frame_fields (header_of s) (frame_numbers s)) ≡ s
write_laid {s} k a = rw (← fields-frame s) (write-fields (laid_framed a) k)

-- ---- what was written is read

-- bytes that spell a valid job, with its widths, are an accepted frame
spelled_accepted : (s : List ℕ) {h : Header} {v : List ℤ} → header_of s ≡ h → frame_numbers s ≡ v → Framed (frame-widths h) s → ValidJob h v → AcceptedFrame s
spelled_accepted s {h} e d f a =
    let g : Framed (frame-widths (header_of s)) s = rw (← e) at f in
    record {
      layout = record {
        limits = rw (← e) at a.limits;
        size = rw (frame-widths-sum (header_of s)) at g.size;
        zeros = rw (frame-widths-sum (header_of s)) at g.zeros;
      };
      valid = rw (← e, ← d) at a;
    }

module _ {h : Header} {v : List ℤ} (a : ValidJob h v) where
  pub header-written : header_of (write (frame_fields h v)) ≡ h
  header-written =
      header_spelled (write (frame_fields h v)) (replicate (count h) (number_bits h))
      (rw (widths-frame h v a.counted) at (fields-write (fit-frame a.limits a.fit))) a.limits.order_least

  pub numbers-written : frame_numbers (write (frame_fields h v)) ≡ v
  unfolding bits
  numbers-written =
      ap (λ (g : Header). numbers (write (frame_fields h v)) header_bits (number_bits g) (count g)) header-written
      ∙ rw (append-nil, a.counted) at (numbers_after {t = []} (omega arith) (fit-header a.limits) a.fit (bytes_fit none))

  framed_written : Framed (frame-widths h) (write (frame_fields h v))
  framed_written = rw (widths-frame h v a.counted) at (write_framed (fit-frame a.limits a.fit))

  pub frame_length-written : length (write (frame_fields h v)) ≡ frame_length h
  frame_length-written = rw (frame-widths-sum h) at framed_written.size

  pub frame-written-accepted : AcceptedFrame (write (frame_fields h v))
  frame-written-accepted = spelled_accepted (write (frame_fields h v)) header-written numbers-written framed_written a
