-- `trace::record_of` meets its contract. The state's own refusal decides. Assumes nothing.
use native.Mathlib.Omega.{arith}
use Rattle.std.proofs.lemmas.Result.{err_from_is_err_and}
use Rattle.job.proofs.Numbers.{number_positive}
use Rattle.trace.proofs.Recording.{record_made, record_refused, record_small}
use Rattle.trace.proofs.recorder.record_of.Goals as goal

pub returns-in_err-check : goal.returns-in_err-check
returns-in_err-check c =
    let p = err_from_is_err_and c.from_residual.result c.from_residual.ensures.1 in
    rw (p.1, p.2) (record_refused c.args.s _ c.in_err-check.ensures (number_positive _))

pub trimmed_digits-digits-requires : goal.trimmed_digits-digits-requires
trimmed_digits-digits-requires c =
    let f = record_small c.args.s c.in_ok-check.ensures in
    (omega arith, omega arith)

pub returns : goal.returns
returns c = record_made c.args.s c.in_ok-check.ensures c.trimmed_digits-digits.result c.trimmed_digits-digits.ensures
