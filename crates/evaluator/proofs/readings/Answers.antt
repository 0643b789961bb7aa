-- A refused call leaves the list; else the rows' readings are put into it.
use Rattle.std.proofs.lemmas.Result.{err_from_is_err_and}
use Rattle.evaluator.proofs.Calls.{readings_refuses, readings_writes, readings_takes}
use Rattle.evaluator.proofs.Horner.{may_read_rows}
use Rattle.evaluator.proofs.readings.Goals as goal

pub returns-in_err-check_readings : goal.returns-in_err-check_readings
returns-in_err-check_readings c =
    let p = err_from_is_err_and c.from_residual.result c.from_residual.ensures.1 in
    rw (p.1, p.2) (record { answer = c.in_err-check_readings.ensures; list = readings_refuses c.args.s c.args.out.now _ c.in_err-check_readings.ensures })

pub put_readings-requires : goal.put_readings-requires
put_readings-requires c =
    let h = readings_takes c.args.s c.args.out.now c.in_ok-check_readings.ensures in (may_read_rows h.0, h.1)

pub returns : goal.returns
returns c = record { answer = c.in_ok-check_readings.ensures; list = readings_writes c.args.s c.args.out.now c.in_ok-check_readings.ensures _ c.put_readings.ensures }
