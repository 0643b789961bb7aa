-- The answer and the list are those of the calls, of which demand 3 holds.
use native.Mathlib.Omega.{arith}
use Rattle.job.proofs.Numbers.{number_positive}
use Rattle.calls.proofs.Performed.{performed_refused, performed_passes, performed_accepted}
use Rattle.calls.proofs.one_by_one.perform.Goals as goal

pub returns-in-Err : goal.returns-in-Err
returns-in-Err c =
    let a = c.args in
    rw c.not_loaded.ensures (performed_refused a.frame.now a.words.now a.out.now _ c.in-Err.ensures (number_positive _))

pub make_calls-m-requires : goal.make_calls-m-requires
make_calls-m-requires c =
    let a = c.args in
    performed_passes a.frame.now a.words.now a.out.now _ c.in-Ok.ensures (omega arith)

pub returns : goal.returns
returns c =
    let a = c.args in
    performed_accepted a.frame.now a.words.now a.out.now _ c.in-Ok.ensures c.make_calls-m.result _ (omega arith) c.make_calls-m.ensures.made c.make_calls-m.ensures.list
