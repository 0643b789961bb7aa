-- The state's refusals come first.
use Rattle.std.proofs.lemmas.Result.{err_from_is_err_and}
use Rattle.evaluator.proofs.Calls.{reads_state_decides, room_decides, reads_none_decides}
use Rattle.evaluator.proofs.check_readings.Goals as goal

pub returns-in_err-check : goal.returns-in_err-check
returns-in_err-check c =
    let p = err_from_is_err_and c.from_residual.result c.from_residual.ensures.1 in
    rw (p.1, p.2) (reads_state_decides c.args.s.now c.args.room _ c.in_err-check.ensures)

pub returns-then-room-s : goal.returns-then-room-s
returns-then-room-s c = room_decides c.args.s.now c.args.room c.in_ok-check.ensures c.if-room-s.true

pub returns : goal.returns
returns c = reads_none_decides c.args.s.now c.args.room c.in_ok-check.ensures c.if-room-s.false
