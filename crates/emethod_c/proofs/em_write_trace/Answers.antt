-- A refused frame changes nothing; else the record of the job after its advance is written.
use native.Mathlib.Omega.{arith}
use Rattle.job.proofs.Numbers.{number_positive}
use Rattle.emethod_c.proofs.Jobs.{job_trace-refused, job_trace-accepted, job_recorded}
use Rattle.emethod_c.proofs.em_write_trace.Goals as goal

pub returns-in-Err : goal.returns-in-Err
returns-in-Err c =
    let a = c.args in
    let both = job_trace-refused a.frame.now _ c.in-Err.ensures (number_positive _) a.budget _ a.out.now c.refused.ensures in
    record { value = both.0; out_after = both.1 }

pub returns-in-Ok-record_of : goal.returns-in-Ok-record_of
returns-in-Ok-record_of c =
    let a = c.args in
    let both = job_trace-accepted a.frame.now _ c.in-Ok.ensures (omega arith) a.budget _ c.advance.ensures _ _ _ a.out.now _ c.in-Ok-record_of.ensures c.write_trace.ensures.answer c.write_trace.ensures.buffer c.answer_of_count.ensures in
    record { value = both.0; out_after = both.1 }

pub returns-in-Err-record_of : goal.returns-in-Err-record_of
returns-in-Err-record_of c =
    absurd (job_recorded c.args.frame.now _ c.in-Ok.ensures (omega arith) c.args.budget _ c.advance.ensures _ c.in-Err-record_of.ensures)
