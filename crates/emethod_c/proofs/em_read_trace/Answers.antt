-- A refused trace and too little room change nothing; else the words are put.
use native.Mathlib.Omega.{arith}
use Rattle.job.proofs.Numbers.{number_positive}
use Rattle.emethod_c.proofs.Packed.{trace_no-row}
use Rattle.emethod_c.proofs.Words.{words_refused, words_limits, words_steps, words_most, words_short, words_whole}
use Rattle.emethod_c.proofs.em_read_trace.Goals as goal

pub returns-in-Err : goal.returns-in-Err
returns-in-Err c =
    let a = c.args in
    let both = words_refused a.trace.now _ c.in-Err.ensures (number_positive _) _ _ a.words.now (trace_no-row _ a.trace.now c.in-Err.ensures) c.refused.ensures in
    record { value = both.0; words_after = both.1 }

pub overflow_mul-size : goal.overflow_mul-size
overflow_mul-size c = omega (arith, words_most c.args.trace.now _ c.in-Ok.ensures (omega arith))

pub overflow_add-size : goal.overflow_add-size
overflow_add-size c = omega (arith, words_most c.args.trace.now _ c.in-Ok.ensures (omega arith))

pub returns-then-words-size : goal.returns-then-words-size
returns-then-words-size c =
    let a = c.args in
    let both = words_short a.trace.now _ c.in-Ok.ensures (omega arith) _ a.words.now c.if-words-size.true c.refused-then-words-size.ensures in
    record { value = both.0; words_after = both.1 }

pub put_words-requires : goal.put_words-requires
put_words-requires c =
    let s = c.args.trace.now in (
      words_limits s _ c.in-Ok.ensures (omega arith),
      words_steps s _ c.in-Ok.ensures (omega arith),
      c.if-words-size.false,
    )

pub returns : goal.returns
returns c =
    let a = c.args in
    let both = words_whole a.trace.now _ c.in-Ok.ensures (omega arith) _ a.words.now _ c.if-words-size.false c.accepted.ensures c.put_words.ensures in
    record { value = both.0; words_after = both.1 }
