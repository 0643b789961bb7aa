-- A refused frame's line, or the lines of the job that load and advance made.
use native.Mathlib.Omega.{arith}
use Rattle.job.proofs.Numbers.{number_positive}
use Rattle.printout.proofs.Frames.{refused_whole, printable, accepted_whole}
use Rattle.printout.proofs.put_frame_text.Goals as goal

pub returns-in-Err : goal.returns-in-Err
returns-in-Err c =
    refused_whole c.args.s.now _ c.in-Err.ensures (λ z. omega (arith, z, number_positive c.in-Err.e)) c.put_refused_text.ensures

pub put_job_text-requires : goal.put_job_text-requires
put_job_text-requires c = (printable c.args.s.now _ c.in-Ok.ensures (omega arith) c.advance.result c.advance.ensures, omega arith)

pub returns-in-Ok : goal.returns-in-Ok
returns-in-Ok c =
    accepted_whole c.args.s.now _ c.in-Ok.ensures (omega arith) c.advance.result c.advance.ensures c.put_job_text.ensures
