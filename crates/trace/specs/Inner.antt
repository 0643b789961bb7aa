-- What the contracts of inner functions cite; a reader of the promises can skip it. Digits taken and put
-- several at a time, as one field, and what the reader of a trace's part after its third byte answers, said
-- of that part alone.
use mathlib.Core.{Path.◌≡◌, Bool.Bool, Bool.not, Bool.cond, List.List, List.[], List.◌∷◌, List.◌++◌, List.map}
use Rattle.std.specs.Prelude.{ℕ, ◌+◌, ◌-◌, ◌*◌, ◌/◌, ◌%◌, ◌^◌, ◌<◌}
use lib.{Dec.eqb, IntN.ℤ, IntN.pos, ListN.length}
use Rattle.integers.specs.Flat.{at, entry, list_from}
use Rattle.bitfields.specs.{Layout.Field, Layout.bits, Layout.Fit, Layout.each, Layout.Bytes, Layout.field, Layout.fill, Layout.bytes_for, Layout.written, Twos.encode, Twos.decode, Twos.Fits, Twos.numbers}
use Rattle.job.specs.{Refusal.Check, Refusal.first_refusal, declared.Header.Header}
use Rattle.state.specs.State.{digit_beyond}
use Rattle.trace.specs.{Trace.digit_array, Trace.record_of, Trace.zero_record, Trace.too_many_steps, Trace.Recorded}

-- ---- digits in an array

-- the c digits from place i on
abbrev pub digits_from : (ds : List ℤ) (i c : ℕ) → List ℤ
digits_from ds i c = list_from 0 c (λ x. at ds (i + x))

-- each of them fits 5 bits
pub record DigitsFit (ds : List ℤ) (i c : ℕ) : Type 0 where
  pub each_fits : (x : ℕ) → x < c → Fits 5 (at ds (i + x))

-- each digit of the n rows in the first k steps fits 5 bits
pub record StepsFit (n k : ℕ) (ds : List ℤ) : Type 0 where
  pub step_fits : (j i : ℕ) → j < k → i < n → Fits 5 (entry ds j i)

-- zeros stand in the c places from i on
pub record ZerosAt (ds : List ℤ) (i c : ℕ) : Type 0 where
  pub each_zero : (x : ℕ) → x < c → at ds (i + x) ≡ pos 0

-- ---- digits as one field

abbrev pub digit_fields : List ℤ → List Field
digit_fields v = each 5 (map (encode 5) v)

-- the digit at place x of the c digits that a number v of 5 c bits spells, the first of them in its highest
-- bits
abbrev pub digit_in : (c v x : ℕ) → ℤ
digit_in c v x = decode 5 (v / 2 ^ (5 * (c - 1 - x)) % 32)

abbrev pub digits_in : (c v : ℕ) → List ℤ
digits_in c v = list_from 0 c (digit_in c v)

-- the byte of a digit whose 5 bits are t: its sign bit stands three times more before them
abbrev pub digit_byte : ℕ → ℕ
digit_byte t = t + 224 * (t / 16)

-- the eight digits that u spells are the eight bytes of y
pub record Bytewise (u y : ℕ) : Type 0 where
  pub each_byte : (x : ℕ) → x < 8 → y / 2 ^ (8 * (7 - x)) % 256 ≡ digit_byte (u / 2 ^ (5 * (7 - x)) % 32)

-- what is written after fields: a buffer with the fields fs, of m bits, at its front becomes one with fs and
-- gs
pub record Appended (m : ℕ) (gs : List Field) (before after : List ℕ) : Type 0 where
  pub more : (s : List ℕ) (fs : List Field) → Bytes s → Fit fs → bits fs ≡ m → before ≡ written s fs
      → after ≡ written s (fs ++ gs)

-- ---- the part after a trace's third byte: the steps made in 6 bits, and then the digits

abbrev pub part_bits : Header → ℕ → ℕ
part_bits h k = 6 + 5 * (h.n * k)

abbrev pub part_steps : List ℕ → ℕ
part_steps b = field b 0 6

abbrev pub part_digits : (h : Header) (k : ℕ) (b : List ℕ) → List ℤ
part_digits h k b = digit_array h.n k (numbers b 6 5 (h.n * k))

-- 6
abbrev pub part_wrong_length : (h : Header) (k : ℕ) (b : List ℕ) → Bool
part_wrong_length h k b = not (eqb (length b) (bytes_for (part_bits h k)))

-- 7
abbrev pub part_fill_bit_set : (h : Header) (k : ℕ) (b : List ℕ) → Bool
part_fill_bit_set h k b = not (eqb (field b (part_bits h k) (fill (part_bits h k))) 0)

-- 10, 6, 7, where it is known whether the size is wrong and whether a filling bit is 1
abbrev pub size_checks : (h : Header) (k : ℕ) (size fills : Bool) → List Check
size_checks h k size fills = (10, too_many_steps h k) ∷ (6, size) ∷ (7, fills) ∷ []

-- and 11
abbrev pub rest_checks : (h : Header) (k : ℕ) (size fills : Bool) (ds : List ℤ) → List Check
rest_checks h k size fills ds = size_checks h k size fills ++ ((11, digit_beyond h k ds) ∷ [])

-- a refusal, and a record of zeros with it
abbrev pub no_record : ℕ → Recorded
no_record c = record { refusal = c; trace = zero_record }

unfoldable pub rest_answer : (h : Header) (k : ℕ) (size fills : Bool) (ds : List ℤ) → Recorded
rest_answer h k size fills ds =
    record {
      refusal = first_refusal (rest_checks h k size fills ds);
      trace = cond (eqb (first_refusal (rest_checks h k size fills ds)) 0) (record_of h k ds) zero_record;
    }

abbrev pub part_answer : Header → List ℕ → Recorded
part_answer h b =
    let k = part_steps b in
    rest_answer h k (part_wrong_length h k b) (part_fill_bit_set h k b) (part_digits h k b)
