-- A record has 0 past its rows and past its steps, and neither the trace writer nor the record of a state
-- looks past them: the proofs of the statements of `specs/PastOrder.antt`.
use mathlib.Core.Path.{◌≡◌, refl, ap}
use mathlib.Core.Bool.{cond}
use mathlib.Core.List.{List}
use mathlib.Core.Logic.{◌⊎◌, inl, inr}
use Prim.Native.Nat.{ℕ, zero, suc, ◌+◌, ◌*◌, ◌/◌, ◌%◌, ◌<◌, ◌≤◌}
use native.Mathlib.Nat.{div-lt_iff_lt-mul, mod-lt, mul_comm}
use native.Mathlib.Omega.{arith}
use borrow.Author.Tests.{ne_eqb}
use lib.Dec.{eqb}
use lib.IntN.{ℤ, pos}
use lib.ListN.{length, get_or-replicate}
use Rattle.integers.specs.Flat.{entry}
use Rattle.integers.proofs.Maximum.{le_or_lt}
use Rattle.state.specs.declared.State.{State}
use Rattle.state.specs.State.{SameBelow, digit_beyond}
use Rattle.state.proofs.PastOrder.{checked_alike, beyond_ext}
use Rattle.state.proofs.Lists.{list_from_alike}
use Rattle.job.specs.Refusal.{first_refusal}
use Rattle.trace.specs.Trace.{Recorded, digit_list, zero_record, trace_record, trace_reader_answer, trace_refusal, record_refusal, state_record, record_answer, trace_writer_checks, trace_writer_refusal, record_fields, trace_writer_answer, trace_writer_buffer}
use Rattle.trace.proofs.Digits.{entry-none}
use Rattle.trace.specs.PastOrder.{RecordZeroPast, RecordZeros, ReadZeros, RecordBelow, SameMade, WriteBelow}
use Rattle.trace.proofs.Valid.{recorded_valid, record_steps_most}
use Rattle.trace.specs.declared.Record.{Record}

-- ---- zeros

zeros_past : RecordZeroPast zero_record
unfolding zero_record
zeros_past = record { digits = λ j i m l o. get_or-replicate 960 (16 * j + i) (pos 0) (pos 0) (omega arith) }

-- a choice by a refusal number
chosen_past : (c : ℕ) (t : Record) → RecordZeroPast t → RecordZeroPast (cond (eqb c 0) t zero_record)
chosen_past zero t p = p
chosen_past (suc c) t p = rw (ne_eqb (suc c) 0 (λ e. omega arith)) zeros_past

pub record_zeros : RecordZeros
unfolding record_answer state_record
record_zeros s =
    chosen_past (record_refusal s) (state_record s) (record { digits = λ j i m l o. entry-none s.header.n s.k _ j i m l o })

pub read_zeros : ReadZeros
unfolding trace_reader_answer trace_record
read_zeros bytes =
    chosen_past (trace_refusal bytes) (trace_record bytes)
    (record { digits = λ j i m l o. entry-none (trace_record bytes).header.n (trace_record bytes).k _ j i m l o })

-- ---- the digits that are looked at

-- the list of k steps of n rows has no digit of another step or row
module _ (n k : ℕ) (ds es : List ℤ) (h : (j i : ℕ) → j < k → i < n → entry ds j i ≡ entry es j i) where
  list_alike : digit_list n k ds ≡ digit_list n k es
  unfolding digit_list
  list_alike = list_from_alike 0 (n * k) _ _ (λ t a b. by_order (le_or_lt n 0) t (omega arith))
    where
      by_order : (n ≤ 0) ⊎ (0 < n) → (t : ℕ) → t < n * k → entry ds (t / n) (t % n) ≡ entry es (t / n) (t % n)
      by_order (inl z) t l = absurd (let e : n ≡ 0 = omega arith in let m : t < 0 * k = rw e at l in omega arith)
      by_order (inr z) t l = h (t / n) (t % n) ((div-lt_iff_lt-mul {k = n} {x = t} {y = k} z).1 (rw (mul_comm n k) at l)) (mod-lt t z)

-- ---- the record of a state

module _ {s t : State} (e : SameBelow s t) where
  refused_alike : record_refusal s ≡ record_refusal t
  refused_alike = ap first_refusal (checked_alike e)

  record_alike : record_refusal s ≡ 0 → state_record s ≡ state_record t
  unfolding state_record
  record_alike z =
      rw (
        ← e.header,
        ← e.steps,
        list_alike s.header.n s.k s.digits t.digits (λ j i l m. e.digits j i (omega (arith, record_steps_most (recorded_valid s z))) m),
      )

-- one refusal number, and with none of them one record
one_answer : (c d : ℕ) (x y : Record) → c ≡ d → (c ≡ 0 → x ≡ y)
    → ◌≡◌ {A = Recorded} (record { refusal = c; trace = cond (eqb c 0) x zero_record }) (record { refusal = d; trace = cond (eqb d 0) y zero_record })
one_answer zero d x y e f = rw (← e, f refl)
one_answer (suc c) d x y e f = rw (← e, ne_eqb (suc c) 0 (λ z. omega arith))

pub record_below : RecordBelow
unfolding record_answer
record_below s t e = one_answer (record_refusal s) (record_refusal t) (state_record s) (state_record t) (refused_alike e) (record_alike e)

-- ---- the trace writer

module _ {t w : Record} (e : SameMade t w) where
  beyond_alike : digit_beyond t.header t.k t.digits ≡ digit_beyond w.header w.k w.digits
  beyond_alike =
      rw (← e.header, ← e.steps)
      (beyond_ext t.header.n t.header.p t.digits w.digits 0 t.k (λ j i g l m. e.digits j i (omega arith) m))

  writer_alike : (room : ℕ) → trace_writer_refusal t room ≡ trace_writer_refusal w room
  unfolding trace_writer_checks
  writer_alike room = rw (beyond_alike, e.header, e.steps)

  fields_alike : record_fields t ≡ record_fields w
  fields_alike = rw (← e.header, ← e.steps, list_alike t.header.n t.k t.digits w.digits e.digits)

  answer_alike : (room : ℕ) → trace_writer_answer t room ≡ trace_writer_answer w room
  unfolding trace_writer_answer
  answer_alike room = rw (writer_alike room, e.header, e.steps)

  buffer_alike : (out : List ℕ) → trace_writer_buffer t out ≡ trace_writer_buffer w out
  unfolding trace_writer_buffer
  buffer_alike out = rw (writer_alike (length out), fields_alike)

pub write_below : WriteBelow
write_below t w e = record { answer = answer_alike e; buffer = buffer_alike e }
