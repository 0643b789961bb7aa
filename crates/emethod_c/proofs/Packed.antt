-- Answers that are packed into one number: what goes with no refusal, and that no row goes with the refusals of
-- running sums and of traces.
use mathlib.Core.Path.{◌≡◌, sym, ap, ◌∙◌}
use mathlib.Core.Bool.{Bool, true, false, not}
use mathlib.Core.List.{List, [], ◌∷◌}
use Prim.Native.Nat.{ℕ, ◌+◌}
use native.Mathlib.Omega.{arith}
use borrow.Author.Tests.{eq-eqb}
use lib.Dec.{T, eqb}
use Rattle.std.specs.Prelude.{Result, Ok, Err}
use Rattle.integers.proofs.Normal.{both, both_left, both_right}
use Rattle.job.specs.Refusal.{Check, first_refusal}
use Rattle.job.specs.Refused.{number_of, row_of}
use Rattle.job.specs.declared.refusals.Refused.{Refused}
use Rattle.job.proofs.Numbers.{rowless_number}
use Rattle.state.specs.declared.State.{State}
use Rattle.running_sums.specs.RunningSums.{SumsWritten, sums_result, sums_checks, sums_written}
use Rattle.trace.specs.Trace.{Recorded, TraceWritten, recorded, trace_checks, trace_reader_answer, trace_written, trace_writer_checks, trace_writer_answer}
use Rattle.trace.specs.declared.Record.{Record}
use Rattle.emethod_c.specs.Foreign.{answer_of, scaled_answer_of, counted_answer_of, result_answer, sums_answer, trace_answer}

-- ---- with no refusal

pub plus_none : (n : ℕ) → n + 0 ≡ n
plus_none n = omega arith

pub no_additions : (count scale : ℕ) → counted_answer_of 0 0 count 0 scale ≡ scaled_answer_of 0 0 count scale
no_additions count scale = plus_none (scaled_answer_of 0 0 count scale)

pub count_alone : (count : ℕ) → counted_answer_of 0 0 count 0 0 ≡ answer_of 0 0 count
count_alone count = no_additions count 0 ∙ plus_none (answer_of 0 0 count)

-- ---- with one

-- no check is by 8
abbrev rowless : List Check → Bool
rowless [] = true
rowless (c ∷ cs) = both (not (eqb c.0 8)) (rowless cs)

never_heavy : (cs : List Check) → T (rowless cs) → first_refusal cs ≡ 8 → ⊥
never_heavy [] t e = absurd (omega arith)
never_heavy ((k, true) ∷ cs) t e = absurd (rw (eq-eqb k 8 e) at (both_left (not (eqb k 8)) (rowless cs) t))
never_heavy ((k, false) ∷ cs) t e = never_heavy cs (both_right (not (eqb k 8)) (rowless cs) t) e

no_row : (e : Refused) (cs : List Check) → T (rowless cs) → number_of e ≡ first_refusal cs → row_of e ≡ 0
no_row e cs t q = rowless_number e (λ z. never_heavy cs t (sym q ∙ z))

pub trace_no-row : (e : Refused) (s : List ℕ) → recorded (Err e) ≡ trace_reader_answer s → row_of e ≡ 0
unfolding trace_reader_answer trace_checks
trace_no-row e s f = no_row e (trace_checks s) tt (ap (λ (x : Recorded). x.refusal) f)

-- ---- results with a count

pub sums_given : (w : Result ℕ Refused) (s : State) (room : ℕ) → sums_result w ≡ sums_written s room → result_answer w ≡ sums_answer (sums_written s room)
unfolding sums_written sums_checks
sums_given (Ok n) s room f = ap sums_answer f
sums_given (Err e) s room f =
    rw (no_row e (sums_checks s room) tt (ap (λ (x : SumsWritten). x.refusal) f)) (ap sums_answer f)

pub trace_given : (w : Result ℕ Refused) (t : Record) (room : ℕ) → trace_written w ≡ trace_writer_answer t room
    → result_answer w ≡ trace_answer (trace_writer_answer t room)
unfolding trace_writer_answer trace_writer_checks
trace_given (Ok n) t room f = ap trace_answer f
trace_given (Err e) t room f =
    rw (no_row e (trace_writer_checks t room) tt (ap (λ (x : TraceWritten). x.refusal) f)) (ap trace_answer f)
