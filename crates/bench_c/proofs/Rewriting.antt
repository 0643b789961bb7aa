-- A record written again and again, over the variables of the code; and what a refused trace comes to, whose record
-- is of zeros.
use mathlib.Core.Path.{◌≡◌, refl, sym, ap, ◌∙◌}
use mathlib.Core.List.{List}
use Prim.Native.Nat.{ℕ, zero, suc, ◌+◌}
use native.Mathlib.Omega.{arith}
use lib.ListN.{length}
use Rattle.std.specs.Prelude.{Result, Ok, Err}
use Rattle.std.specs.Result.{result_unwrap_or}
use Rattle.job.specs.Refused.{number_of}
use Rattle.job.specs.declared.refusals.Refused.{Refused}
use Rattle.trace.specs.Trace.{Recorded, TraceWritten, trace_written, trace_writer_checks, trace_writer_answer, trace_writer_buffer, zero_record}
use Rattle.trace.specs.declared.Record.{Record}
use Rattle.bench_c.specs.Bench.{rewritten, Rewrites}

-- no write
pub rewrite_none : (t : Record) (out : List ℕ) → out ≡ rewritten t 0 out
unfolding rewritten
rewrite_none t out = refl

-- one write more
pub rewrite_turn : (t : Record) (i : ℕ) (given out left : List ℕ) → out ≡ rewritten t i given → left ≡ trace_writer_buffer t out → left ≡ rewritten t (i + 1) given
unfolding rewritten
rewrite_turn t i given out left e f =
    let s : i + 1 ≡ suc i = omega arith in
    f ∙ ap (trace_writer_buffer t) e ∙ ap (λ (j : ℕ). rewritten t j given) (sym s)

-- the bytes of a write
size_is : (r : Result ℕ Refused) {w : TraceWritten} → trace_written r ≡ w → result_unwrap_or r 0 ≡ w.length
size_is (Ok n) e = ap (λ (x : TraceWritten). x.length) e
size_is (Err e) f = ap (λ (x : TraceWritten). x.length) f

-- all writes
pub rewrite_all : (t : Record) (more i : ℕ) (given out left : List ℕ) (r : Result ℕ Refused) (n : ℕ) → i ≡ more
    → trace_written r ≡ trace_writer_answer t (length given) → out ≡ trace_writer_buffer t given
    → n ≡ result_unwrap_or r 0 → left ≡ rewritten t i out → Rewrites t more given n left
rewrite_all t more i given out left r n q ea eb en el =
    record { size = en ∙ size_is r ea; buffer = el ∙ rw (q, eb) }

-- no byte of a record of zeros: its order is refused
zeros_kept : (out : List ℕ) → trace_writer_buffer zero_record out ≡ out
unfolding trace_writer_buffer trace_writer_checks zero_record
zeros_kept out = refl

zeros_unwritten : (times : ℕ) (out : List ℕ) → rewritten zero_record times out ≡ out
unfolding rewritten
zeros_unwritten zero out = refl
zeros_unwritten (suc j) out = ap (trace_writer_buffer zero_record) (zeros_unwritten j out) ∙ zeros_kept out

zeros_size : (room : ℕ) → (trace_writer_answer zero_record room).length ≡ 0
unfolding trace_writer_answer trace_writer_checks zero_record
zeros_size room = refl

pub refused_rewrites : (e : Refused) (a : Recorded) (more : ℕ) (out : List ℕ) → record { refusal = number_of e; trace = zero_record } ≡ a
    → Rewrites a.trace more out 0 out
refused_rewrites e a more out f =
    let t : zero_record ≡ a.trace = ap (λ (x : Recorded). x.trace) f in
    rw (← t)
    record { size = sym (zeros_size (length out)); buffer = sym (zeros_unwritten more (trace_writer_buffer zero_record out) ∙ zeros_kept out) }
