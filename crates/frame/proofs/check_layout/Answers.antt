-- The first condition that holds decides.
use Rattle.std.proofs.Common.{ap, not}
use Rattle.std.proofs.lemmas.Result.{err_from_is_err_and}
use native.Mathlib.Omega.{arith}
use Rattle.frame.proofs.Unpacking.{HeaderRead, short_decides, header_decides, layout-header-limits, length_decides, fill_decides, none_decides}
use Rattle.frame.proofs.check_layout.Goals as goal

pub returns-then-s-lt-HEADER_BYTES : goal.returns-then-s-lt-HEADER_BYTES
returns-then-s-lt-HEADER_BYTES c = short_decides c.args.s.now c.if-s-lt-HEADER_BYTES.true

pub returns-in_err-check_read : goal.returns-in_err-check_read
returns-in_err-check_read c =
    let p = err_from_is_err_and c.from_residual.result c.from_residual.ensures.1 in
    rw (p.1, p.2) (header_decides _ (record { long = omega arith; header = c.read_header-h.ensures; refusal = c.in_err-check_read.ensures }))

pub frame_length-requires : goal.frame_length-requires
frame_length-requires c =
    let read : HeaderRead c.args.s.now c.read_header-h.result 0 =
    record { long = omega arith; header = c.read_header-h.ensures; refusal = c.in_ok-check_read.ensures } in
    layout-header-limits read

pub returns-then-s-frame_length : goal.returns-then-s-frame_length
returns-then-s-frame_length c =
    let read : HeaderRead c.args.s.now c.read_header-h.result 0 =
    record { long = omega arith; header = c.read_header-h.ensures; refusal = c.in_ok-check_read.ensures } in
    length_decides read c.frame_length.ensures c.if-s-frame_length.true

pub frame_bits-requires : goal.frame_bits-requires
frame_bits-requires c =
    let read : HeaderRead c.args.s.now c.read_header-h.result 0 =
    record { long = omega arith; header = c.read_header-h.ensures; refusal = c.in_ok-check_read.ensures } in
    layout-header-limits read

pub returns-then-not-fill_is_zero : goal.returns-then-not-fill_is_zero
returns-then-not-fill_is_zero c =
    let read : HeaderRead c.args.s.now c.read_header-h.result 0 =
    record { long = omega arith; header = c.read_header-h.ensures; refusal = c.in_ok-check_read.ensures } in
    fill_decides read c.frame_length.ensures
    c.if-s-frame_length.false c.frame_bits.ensures c.fill_is_zero.ensures (ap not c.if-not-fill_is_zero.true)

pub returns : goal.returns
returns c =
    let read : HeaderRead c.args.s.now c.read_header-h.result 0 =
    record { long = omega arith; header = c.read_header-h.ensures; refusal = c.in_ok-check_read.ensures } in
    none_decides read c.frame_length.ensures
    c.if-s-frame_length.false c.frame_bits.ensures c.fill_is_zero.ensures (ap not c.if-not-fill_is_zero.false)
