-- A refused frame changes nothing; else the running sums of the job after its advance are written.
use native.Mathlib.Omega.{arith}
use Rattle.job.proofs.Numbers.{number_positive}
use Rattle.emethod_c.proofs.Jobs.{job_sums-refused, job_sums-accepted}
use Rattle.emethod_c.proofs.em_running_sums.Goals as goal

pub returns-in-Err : goal.returns-in-Err
returns-in-Err c =
    let a = c.args in
    let both = job_sums-refused a.frame.now _ c.in-Err.ensures (number_positive _) a.budget _ a.words.now c.refused.ensures in
    record { value = both.0; words_after = both.1 }

pub returns-in-Ok : goal.returns-in-Ok
returns-in-Ok c =
    let a = c.args in
    let both = job_sums-accepted a.frame.now _ c.in-Ok.ensures (omega arith) a.budget _ c.advance.ensures _ _ a.words.now _ c.running_sums.ensures.answer c.running_sums.ensures.list c.answer_of_count.ensures in
    record { value = both.0; words_after = both.1 }
