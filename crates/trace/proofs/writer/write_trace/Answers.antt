-- `trace::write_trace` meets its contract. With a refusal nothing is written. Assumes nothing.
use Rattle.std.proofs.lemmas.Result.{err_from_is_err_and}
use Rattle.job.proofs.Numbers.{number_positive}
use Rattle.trace.proofs.Valid.{record_steps_most, steps-fit}
use Rattle.trace.proofs.WriterRefusals.{trace_answer-refused, trace_answer-written, writer_takes}
use Rattle.trace.proofs.writer.write_trace.Goals as goal

pub returns-in_err-check_record : goal.returns-in_err-check_record
returns-in_err-check_record c =
    let both = trace_answer-refused c.args.t c.args.out.now _ c.in_err-check_record.ensures (number_positive _) in
    let p = err_from_is_err_and c.from_residual.result c.from_residual.ensures.1 in
    record { answer = rw (p.1, p.2) both.0; buffer = both.1 }

pub put_trace-requires : goal.put_trace-requires
put_trace-requires c =
    let v = writer_takes c.args.t c.args.out.now c.in_ok-check_record.ensures in
    (v.0.limits, record_steps_most v.0, steps-fit v.0, v.1)

pub trace_length-requires : goal.trace_length-requires
trace_length-requires c =
    let v = writer_takes c.args.t c.args.out.now c.in_ok-check_record.ensures in
    (v.0.limits, record_steps_most v.0)

pub returns : goal.returns
returns c =
    let both = trace_answer-written c.args.t c.args.out.now c.in_ok-check_record.ensures c.trace_length.result _ c.trace_length.ensures c.put_trace.ensures in
    record { answer = both.0; buffer = both.1 }
