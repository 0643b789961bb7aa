-- The first condition that holds decides.
use Rattle.std.proofs.lemmas.Result.{err_from_is_err_and}
use native.Mathlib.Omega.{arith}
use Rattle.job.proofs.Numbers.{number_positive}
use Rattle.frame.proofs.Writer.{header_decides, writer_limits, numbers_decide, room_decides, none_decides}
use Rattle.frame.proofs.check_writer.Goals as goal

pub returns-in_err-check_header : goal.returns-in_err-check_header
returns-in_err-check_header c =
    let a = c.args in
    let p = err_from_is_err_and c.from_residual.result c.from_residual.ensures.1 in
    rw (p.1, p.2) (header_decides a.h a.v.now a.room _ c.in_err-check_header.ensures)

pub check_numbers-requires : goal.check_numbers-requires
check_numbers-requires c =
    let a = c.args in
    writer_limits a.h a.v.now a.room c.in_ok-check_header.ensures

pub returns-in_err-check_numbers : goal.returns-in_err-check_numbers
returns-in_err-check_numbers c =
    let a = c.args in
    let p = err_from_is_err_and c.from_residual-in_err-check_numbers.result c.from_residual-in_err-check_numbers.ensures.1 in
    rw (p.1, p.2) (numbers_decide a.h a.v.now a.room c.in_ok-check_header.ensures c.in_err-check_numbers.ensures (number_positive _))

pub frame_length-requires : goal.frame_length-requires
frame_length-requires c =
    let a = c.args in
    writer_limits a.h a.v.now a.room c.in_ok-check_header.ensures

pub returns-then-room-frame_length : goal.returns-then-room-frame_length
returns-then-room-frame_length c =
    let a = c.args in
    room_decides a.h a.v.now a.room c.in_ok-check_header.ensures c.in_ok-check_numbers.ensures (omega arith) c.frame_length.ensures c.if-room-frame_length.true

pub returns : goal.returns
returns c =
    let a = c.args in
    none_decides a.h a.v.now a.room c.in_ok-check_header.ensures c.in_ok-check_numbers.ensures (omega arith) c.frame_length.ensures c.if-room-frame_length.false
