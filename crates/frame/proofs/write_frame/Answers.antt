-- Refused, or else the frame fills the front of the buffer.
use native.Mathlib.Omega.{arith}
use Rattle.std.proofs.lemmas.Result.{err_from_is_err_and}
use Rattle.frame.proofs.Writer.{write-refused, write-valid, part_within, part_long, part_ready, write-taken}
use Rattle.frame.proofs.write_frame.Goals as goal

pub returns-in_err-check_writer : goal.returns-in_err-check_writer
returns-in_err-check_writer c =
    let a = c.args in
    let p = err_from_is_err_and c.from_residual.result c.from_residual.ensures.1 in
    rw (p.1, p.2) (write-refused a.h a.v.now a.out.now _ c.in_err-check_writer.ensures)

pub frame_length-n-requires : goal.frame_length-n-requires
frame_length-n-requires c =
    let a = c.args in
    (write-valid a.h a.v.now a.out.now c.in_ok-check_writer.ensures (omega arith)).0.limits

pub slice_bounds-put_frame-end : goal.slice_bounds-put_frame-end
slice_bounds-put_frame-end c =
    let a = c.args in
    part_within a.h a.v.now a.out.now c.in_ok-check_writer.ensures (omega arith) c.frame_length-n.ensures

pub slice_bounds-put_frame-end-2 : goal.slice_bounds-put_frame-end-2
slice_bounds-put_frame-end-2 c =
    let a = c.args in
    part_long a.h a.v.now a.out.now c.in_ok-check_writer.ensures (omega arith) c.frame_length-n.ensures

pub put_frame-requires : goal.put_frame-requires
put_frame-requires c =
    let a = c.args in
    part_ready a.h a.v.now a.out.now c.in_ok-check_writer.ensures (omega arith) c.frame_length-n.ensures

pub returns : goal.returns
returns c =
    let a = c.args in
    write-taken a.h a.v.now a.out.now c.in_ok-check_writer.ensures (omega arith) c.frame_length-n.ensures c.put_frame.ensures
