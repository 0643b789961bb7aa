-- What the reader of the part after the third byte answers is what the trace reader answers, for a header
-- that is not refused. Assumes nothing.
use mathlib.Core.Path.{◌≡◌, refl, sym, ap, ◌∙◌}
use mathlib.Core.Bool.{Bool, true, false, not, cond}
use mathlib.Core.List.{List, map}
use Prim.Native.Nat.{ℕ, ◌+◌, ◌*◌, ◌≤◌}
use native.Mathlib.Omega.{arith}
use borrow.Author.Tests.{eq-eqb, eqb-false, eqb-true, le-ltb, ne_eqb}
use lib.Dec.{eqb}
use lib.IntN.{ℤ}
use lib.ListN.{length, drop, length-drop}
use Rattle.bitfields.specs.Layout.{field, fill, bytes_for}
use Rattle.bitfields.specs.Twos.{decode, numbers}
use Rattle.bitfields.proofs.Reading.{field-drop, values_from-drop}
use Rattle.job.specs.Header.{trace_read_checks}
use Rattle.job.specs.Refusal.{first_refusal}
use Rattle.job.proofs.Refusal.{accepted-before}
use Rattle.job.specs.declared.Header.{Header}
use Rattle.header.specs.Header.{header_of}
use Rattle.trace.specs.Inner.{part_bits, part_steps, part_digits, part_wrong_length, part_fill_bit_set, rest_checks, rest_answer, part_answer}
use Rattle.trace.specs.Trace.{Recorded, record_of, digit_array, too_many_steps, trace_wrong_length, trace_fill_bit_set, trace_bits, trace_length, steps_of, trace_digits, trace_checks, trace_record, trace_reader_answer, zero_record}
use Rattle.trace.specs.declared.Record.{Record}

-- a wrong size: nothing else counts
wrong_size : (h : Header) (k : ℕ) (a b : Bool) (ds es : List ℤ) → rest_answer h k true a ds ≡ rest_answer h k true b es
unfolding rest_answer
wrong_size h k a b ds es = by_test (too_many_steps h k) (record_of h k ds) (record_of h k es)
  where
    by_test : (t : Bool) (x y : Record)
        → ◌≡◌ {A = Recorded} (record { refusal = cond t 10 6; trace = cond (eqb (cond t 10 6) 0) x zero_record }) (record { refusal = cond t 10 6; trace = cond (eqb (cond t 10 6) 0) y zero_record })
    by_test true x y = refl
    by_test false x y = refl

-- a header that is not refused: the rest decides
whole_rest : (s : List ℕ) → 4 ≤ length s → first_refusal (trace_read_checks (header_of s)) ≡ 0
    → trace_reader_answer s ≡ rest_answer (header_of s) (steps_of s) (trace_wrong_length s) (trace_fill_bit_set s) (trace_digits s)
unfolding trace_reader_answer rest_answer trace_checks trace_record
whole_rest s l e =
    let h = header_of s in
    let rest = rest_checks h (steps_of s) (trace_wrong_length s) (trace_fill_bit_set s) (trace_digits s) in
    rw (le-ltb (length s) 4 l, accepted-before (trace_read_checks h) rest tt e)

three_more : (x : ℕ) → bytes_for (30 + x) ≡ 3 + bytes_for (6 + x)
three_more x = omega arith

module _ (s : List ℕ) (l : 4 ≤ length s) where
  abbrev part : List ℕ
  part = drop 3 s

  steps_same : part_steps part ≡ steps_of s
  steps_same = field-drop s 3 0 6 (omega arith)

  -- of the right length
  module _ (h : Header) (k : ℕ) (e : length s ≡ trace_length h k) where
    fill_same : field part (part_bits h k) (fill (part_bits h k)) ≡ field s (trace_bits h k) (fill (trace_bits h k))
    fill_same =
        let g : bytes_for (trace_bits h k) ≡ 3 + bytes_for (part_bits h k) = three_more (5 * (h.n * k)) in
        let f : fill (part_bits h k) ≡ fill (trace_bits h k) = omega (arith, g) in
        let b : 24 + part_bits h k ≡ trace_bits h k = omega arith in
        rw f (field-drop s 3 (part_bits h k) (fill (trace_bits h k)) (omega arith) ∙ rw b)

    digits_same : numbers part 6 5 (h.n * k) ≡ numbers s 30 5 (h.n * k)
    digits_same = ap (map (decode 5)) (values_from-drop s 3 6 5 (h.n * k) (omega arith))

  rest_same : (h : Header) (k : ℕ) (c : Bool) → eqb (length s) (trace_length h k) ≡ c
      → rest_answer h k (part_wrong_length h k part) (part_fill_bit_set h k part) (part_digits h k part)
      ≡ rest_answer h k (not (eqb (length s) (trace_length h k))) (not (eqb (field s (trace_bits h k) (fill (trace_bits h k))) 0)) (digit_array h.n k (numbers s 30 5 (h.n * k)))
  rest_same h k true e =
      let z = eqb-true (length s) (trace_length h k) e in
      let b : length part ≡ bytes_for (part_bits h k) = rw length-drop (omega arith) in
      rw (e, eq-eqb (length part) (bytes_for (part_bits h k)) b, fill_same h k z, digits_same h k z)
  rest_same h k false e =
      let b : length part ≡ bytes_for (part_bits h k) → ⊥ = λ q. eqb-false (length s) (trace_length h k) e (omega (arith, length-drop 3 s, three_more (5 * (h.n * k)))) in
      rw (e, ne_eqb (length part) (bytes_for (part_bits h k)) b) (wrong_size h k _ _ _ _)

  pub part_whole : first_refusal (trace_read_checks (header_of s)) ≡ 0 → part_answer (header_of s) part ≡ trace_reader_answer s
  part_whole e =
      let h = header_of s in
      ap (λ (k : ℕ). rest_answer h k (part_wrong_length h k part) (part_fill_bit_set h k part) (part_digits h k part)) steps_same
      ∙ rest_same h (steps_of s) (eqb (length s) (trace_length h (steps_of s))) refl
      ∙ sym (whole_rest s l e)
