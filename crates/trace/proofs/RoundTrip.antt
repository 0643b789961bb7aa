-- The round trips of traces: an accepted trace is the bytes of its record, and the bytes of a valid record
-- are a trace that gives it back, trimmed. Assumes nothing.
use mathlib.Core.Path.{◌≡◌, ap, ◌∙◌}
use mathlib.Core.List.{List, [], ◌∷◌, ◌++◌, map, append-nil}
use Prim.Native.Nat.{ℕ, ◌+◌, ◌*◌, ◌-◌, ◌≤◌}
use native.Mathlib.Omega.{arith}
use lib.IntN.{ℤ}
use lib.ListN.{length, replicate, length-map}
use Rattle.bitfields.specs.Layout.{Field, bits, widths, total_width, Fit, none, more, Bytes, field, fields, Framed, write}
use Rattle.bitfields.specs.Twos.{encode, numbers}
use Rattle.bitfields.proofs.Spelling.{bits_each, bytes_fit, fit_append, total_width_replicate, values, widths-each}
use Rattle.bitfields.proofs.Writing.{write_framed}
use Rattle.bitfields.proofs.RoundTrip.{fields-write, write-fields}
use Rattle.bitfields.proofs.Twos.{fit_encodes, fields-numbers, length-numbers, numbers_after}
use Rattle.job.specs.Header.{Limits}
use Rattle.job.specs.declared.Header.{Header}
use Rattle.header.specs.Header.{header_fields, header_of}
use Rattle.header.proofs.Header.{fit-header, header_spelled}
use Rattle.trace.specs.Trace.{ValidRecord, AcceptedTrace, trimmed, digit_list, digit_array, trace_fields, trace_bits, trace_length, steps_of, trace_digits, trace_record, record_fields, record_of}
use Rattle.trace.proofs.Digits.{entry_kept, length-digit_list, list_array}
use Rattle.trace.proofs.Valid.{order_some, record_steps_most, fit-digits}
use Rattle.trace.specs.declared.Record.{Record}

-- ---- the layout

abbrev trace-widths : Header → ℕ → List ℕ
trace-widths h k = 2 ∷ 2 ∷ 4 ∷ 6 ∷ 4 ∷ 6 ∷ 6 ∷ replicate (h.n * k) 5

trace-widths-sum : (h : Header) (k : ℕ) → total_width (trace-widths h k) ≡ trace_bits h k
unfolding total_width
trace-widths-sum h k = rw (total_width_replicate 5 (h.n * k)) (omega arith)

pub bits-trace : (h : Header) (k : ℕ) (ds : List ℤ) → bits (trace_fields h k ds) ≡ trace_bits h k
unfolding bits
bits-trace h k ds =
    rw (bits_each 5 (map (encode 5) (digit_list h.n k ds)), length-map (digit_list h.n k ds) (encode 5), length-digit_list h.n k ds) (omega arith)

widths-trace : (h : Header) (k : ℕ) (ds : List ℤ) → widths (trace_fields h k ds) ≡ trace-widths h k
widths-trace h k ds =
    rw (widths-each 5 (map (encode 5) (digit_list h.n k ds)), length-map (digit_list h.n k ds) (encode 5), length-digit_list h.n k ds)

-- the header and the steps, and the whole
pub fit_head : {h : Header} {k : ℕ} → Limits h → k ≤ 60 → Fit (header_fields h ++ ((6, k) ∷ []))
fit_head {h} {k} l g = fit_append (fit-header l) (more {w = 6} {v = k} (omega arith) none)

fit-trace : {t : Record} → ValidRecord t → Fit (record_fields t)
fit-trace a = fit_append (fit_head a.limits (record_steps_most a)) (fit_encodes (omega arith) (fit-digits a))

-- ---- what was read is written

-- an accepted trace's bytes are those of its record
digits_read : {s : List ℕ} → AcceptedTrace s → digit_list (header_of s).n (steps_of s) (trace_digits s) ≡ numbers s 30 5 ((header_of s).n * steps_of s)
unfolding trace_record
digits_read {s} a =
    let n = (header_of s).n in
    list_array n (steps_of s) (numbers s 30 5 (n * steps_of s)) (order_some a.valid) a.valid.limits.order_most (record_steps_most a.valid) (length-numbers s 30 5 (n * steps_of s))

fields-trace : {s : List ℕ} → AcceptedTrace s → fields s 0 (trace-widths (header_of s) (steps_of s)) ≡ record_fields (trace_record s)
unfolding fields trace_record
fields-trace {s} a =
    let e : field s 14 4 + 1 - 1 ≡ field s 14 4 = omega arith in
    rw (digits_read a, e, fields-numbers s 30 5 ((header_of s).n * steps_of s))

framed : {s : List ℕ} → AcceptedTrace s → Framed (trace-widths (header_of s) (steps_of s)) s
framed {s} a =
    let e = trace-widths-sum (header_of s) (steps_of s) in
    record { size = rw e a.size; zeros = rw e a.zeros }

pub write-accepted : {s : List ℕ} → Bytes s → AcceptedTrace s → write (record_fields (trace_record s)) ≡ s
write-accepted {s} k a = rw (← fields-trace a) (write-fields (framed a) k)

-- ---- trimmed records

-- a trimmed record is as valid
pub trimmed-valid : {t : Record} → ValidRecord t → ValidRecord (trimmed t)
trimmed-valid {t} a =
    record {
      limits = a.limits;
      steps = a.steps;
      bits = a.bits;
      within = λ j i l m. rw (entry_kept t.header.n t.k t.digits j i a.limits.order_most (record_steps_most a) l m) (a.within j i l m);
    }

-- trimming twice is trimming once
pub trimmed_twice : {t : Record} → ValidRecord t → trimmed (trimmed t) ≡ trimmed t
trimmed_twice {t} a =
    let n = t.header.n in
    rw (list_array n t.k (digit_list n t.k t.digits) (order_some a) a.limits.order_most (record_steps_most a) (length-digit_list n t.k t.digits))

-- ---- what was written is read

-- bytes whose fields after the header are k and others have k as their steps
steps_spelled : (s ws : List ℕ) (h : Header) {k : ℕ} {fs : List Field} → fields s 0 (2 ∷ 2 ∷ 4 ∷ 6 ∷ 4 ∷ 6 ∷ 6 ∷ ws) ≡ header_fields h ++ ((6, k) ∷ fs) → steps_of s ≡ k
unfolding fields
steps_spelled s ws h e = let v = ap values e in cc

-- bytes that spell a record's header, steps and digits: what is read of them is the record, trimmed
spelled_record : (s : List ℕ) (t : Record) → header_of s ≡ t.header → steps_of s ≡ t.k → numbers s 30 5 (t.header.n * t.k) ≡ digit_list t.header.n t.k t.digits
    → trace_record s ≡ trimmed t
unfolding trace_record
spelled_record s t e d g =
    ap (λ (h : Header). made h (steps_of s) (numbers s 30 5 (h.n * steps_of s))) e
    ∙ ap (λ (k : ℕ). made t.header k (numbers s 30 5 (t.header.n * k))) d
    ∙ ap (made t.header t.k) g
  where
    made : Header → ℕ → List ℤ → Record
    made h k v = record_of h k (digit_array h.n k v)

-- bytes that are framed as a valid record's are an accepted trace
spelled_accepted : (s : List ℕ) (h : Header) (k : ℕ) → header_of s ≡ h → steps_of s ≡ k → Framed (trace-widths h k) s → ValidRecord (trace_record s) → AcceptedTrace s
spelled_accepted s h k e d f a =
    let g : Framed (trace-widths (header_of s) (steps_of s)) s = rw (← e, ← d) at f in
    let z = trace-widths-sum (header_of s) (steps_of s) in
    record { size = rw z at g.size; zeros = rw z at g.zeros; valid = a }

-- a valid record's bytes
module _ {t : Record} (a : ValidRecord t) where
  abbrev s : List ℕ
  s = write (record_fields t)

  spelled : fields s 0 (trace-widths t.header t.k) ≡ record_fields t
  spelled = rw (widths-trace t.header t.k t.digits) at (fields-write (fit-trace a))

  header-written : header_of s ≡ t.header
  header-written = header_spelled s (6 ∷ replicate (t.header.n * t.k) 5) spelled (order_some a)

  steps-written : steps_of s ≡ t.k
  steps-written = steps_spelled s (replicate (t.header.n * t.k) 5) t.header spelled

  numbers-written : numbers s 30 5 (t.header.n * t.k) ≡ digit_list t.header.n t.k t.digits
  unfolding bits
  numbers-written =
      rw (append-nil, length-digit_list t.header.n t.k t.digits) at
      (numbers_after {fs = header_fields t.header ++ ((6, t.k) ∷ [])} {t = []} (omega arith) (fit_head a.limits (record_steps_most a)) (fit-digits a) (bytes_fit none))

  pub written_record : trace_record s ≡ trimmed t
  written_record = spelled_record s t header-written steps-written numbers-written

  framed_written : Framed (trace-widths t.header t.k) s
  framed_written = rw (widths-trace t.header t.k t.digits) at (write_framed (fit-trace a))

  pub written-trace_length : length s ≡ trace_length t.header t.k
  written-trace_length = rw (trace-widths-sum t.header t.k) at framed_written.size

  pub written-trace-accepted : AcceptedTrace s
  written-trace-accepted = spelled_accepted s t.header t.k header-written steps-written framed_written (rw (← written_record) at (trimmed-valid a))
