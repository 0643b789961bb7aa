use native.Mathlib.Omega.{arith}
use Rattle.job.proofs.Numbers.{number_positive}
use Rattle.emethod_c.proofs.Jobs.{check_refused, check_accepted, order-kept}
use Rattle.emethod_c.proofs.em_check_frame.Goals as goal

pub count-requires : goal.count-requires
count-requires c = order-kept c.args.frame.now _ c.in-Ok.ensures (omega arith)

pub returns-in-Ok : goal.returns-in-Ok
returns-in-Ok c = check_accepted c.args.frame.now _ c.in-Ok.ensures (omega arith) _ _ c.count.ensures c.accepted.ensures

pub returns-in-Err : goal.returns-in-Err
returns-in-Err c = check_refused c.args.frame.now _ c.in-Err.ensures (number_positive _) _ c.refused.ensures
