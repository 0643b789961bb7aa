-- The laws of the trace reader's refusals, over the code's variables. Assumes nothing.
use mathlib.Core.Path.{◌≡◌, sym, ap, ◌∙◌}
use mathlib.Core.Bool.{Bool, true, false}
use mathlib.Core.List.{List, [], ◌∷◌}
use Prim.Native.Nat.{ℕ, ◌-◌, ◌<◌, ◌≤◌}
use native.Mathlib.Omega.{arith}
use borrow.Author.Tests.{le-ltb, lt-ltb, ne_eqb}
use lib.IntN.{ℤ}
use lib.ListN.{length, take, drop, length-drop}
use lib.Seq.{take_all}
use Rattle.job.specs.Header.{trace_read_checks, Limits}
use Rattle.job.specs.Refusal.{first_refusal}
use Rattle.job.proofs.Refusal.{accepted-before, refused-before}
use Rattle.job.specs.declared.Header.{Header}
use Rattle.header.specs.Header.{header_of}
use Rattle.state.specs.State.{digit_beyond}
use Rattle.trace.specs.Trace.{Recorded, trace_wrong_length, trace_fill_bit_set, trace_digits, steps_of, trace_checks, trace_reader_answer, record_of}
use Rattle.trace.specs.Inner.{part_steps, part_digits, part_wrong_length, part_fill_bit_set, size_checks, rest_checks, rest_answer, no_record, part_answer}
use Rattle.trace.proofs.Part.{part_whole}
use Rattle.trace.proofs.Valid.{trace-header_is}

-- ---- 10, 6, 7 and 11

module _ (h : Header) (k : ℕ) (x y : Bool) (ds : List ℤ) where
  rest-refused : (c : ℕ) → c ≡ first_refusal (size_checks h k x y) → 0 < c → no_record c ≡ rest_answer h k x y ds
  unfolding rest_answer
  rest-refused c r z =
      let f : first_refusal (rest_checks h k x y ds) ≡ c = refused-before (size_checks h k x y) ((11, digit_beyond h k ds) ∷ []) c z (sym r) in
      rw (f, ne_eqb c 0 (λ e. omega arith))

  module _ (r : 0 ≡ first_refusal (size_checks h k x y)) where
    rest-last : first_refusal (rest_checks h k x y ds) ≡ first_refusal ((11, digit_beyond h k ds) ∷ [])
    rest-last = accepted-before (size_checks h k x y) ((11, digit_beyond h k ds) ∷ []) tt (sym r)

    rest-beyond : digit_beyond h k ds ≡ true → no_record 11 ≡ rest_answer h k x y ds
    unfolding rest_answer
    rest-beyond e = rw (rest-last, e)

    rest_read : digit_beyond h k ds ≡ false → ◌≡◌ {A = Recorded} (record { refusal = 0; trace = record_of h k ds }) (rest_answer h k x y ds)
    unfolding rest_answer
    rest_read e = rw (rest-last, e)

module _ (h : Header) (b : List ℕ) (k : ℕ) (e : k ≡ part_steps b) where
  abbrev sizes : ℕ
  sizes = first_refusal (size_checks h k (part_wrong_length h k b) (part_fill_bit_set h k b))

  abbrev answer : ℕ → Recorded
  answer k = rest_answer h k (part_wrong_length h k b) (part_fill_bit_set h k b) (part_digits h k b)

  pub part_refused : (c : ℕ) → c ≡ sizes → 0 < c → no_record c ≡ part_answer h b
  part_refused c r z = rest-refused h k _ _ _ c r z ∙ ap answer e

  module _ (r : 0 ≡ sizes) (ds : List ℤ) (t : Bool) (d : ds ≡ part_digits h k b) (f : t ≡ digit_beyond h k ds) where
    pub part_beyond : t ≡ true → no_record 11 ≡ part_answer h b
    part_beyond g = rest-beyond h k _ _ _ r (rw d at (sym f ∙ g)) ∙ ap answer e

    pub part_read : t ≡ false → ◌≡◌ {A = Recorded} (record { refusal = 0; trace = record_of h k ds }) (part_answer h b)
    part_read g = rw d (rest_read h k _ _ _ r (rw d at (sym f ∙ g)) ∙ ap answer e)

-- ---- 1 to 5

pub trace_read_short : (s : List ℕ) → length s < 4 → no_record 1 ≡ trace_reader_answer s
unfolding trace_reader_answer trace_checks
trace_read_short s l = rw (lt-ltb (length s) 4 l)

module _ (s : List ℕ) (h : Header) (l : 4 ≤ length s) (e : h ≡ header_of s) where
  pub read_header : (c : ℕ) → c ≡ first_refusal (trace_read_checks h) → 0 < c → no_record c ≡ trace_reader_answer s
  unfolding trace_reader_answer trace_checks
  read_header c r z =
      let g = header_of s in
      let rest = rest_checks g (steps_of s) (trace_wrong_length s) (trace_fill_bit_set s) (trace_digits s) in
      rw (le-ltb (length s) 4 l, refused-before (trace_read_checks g) rest c z (rw e at (sym r)), ne_eqb c 0 (λ e. omega arith))

  module _ (r : 0 ≡ first_refusal (trace_read_checks h)) where
    pub read_limited : Limits h
    read_limited = rw (← e) at ((trace-header_is s).0 (rw e at (sym r)))

    -- a part to the end is what is left of the list
    pub read_rest : (a : Recorded) → a ≡ part_answer h (take (length s - 3) (drop 3 s)) → a ≡ trace_reader_answer s
    read_rest a f =
        f ∙ rw (take_all (length s - 3) (drop 3 s) (rw length-drop (omega arith))) (ap (λ (g : Header). part_answer g (drop 3 s)) e ∙ part_whole s l (rw e at (sym r)))
