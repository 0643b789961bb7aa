-- Refused by 1 to 7, or else there is room for the numbers.
use native.Mathlib.Omega.{arith}
use Rattle.std.proofs.lemmas.Result.{err_from_is_err_and}
use Rattle.job.proofs.Limits.{order-within}
use Rattle.frame.proofs.Unpacking.{LayoutRead, layout_read, layout-limits, unpack_refused, unpack_long, unpack_room, unpack_accepted}
use Rattle.frame.proofs.unpack.Goals as goal

pub returns-in_err-check_layout : goal.returns-in_err-check_layout
returns-in_err-check_layout c =
    let p = err_from_is_err_and c.from_residual.result c.from_residual.ensures.1 in
    rw (p.1, p.2) (unpack_refused c.args.s.now c.args.v.now _ c.in_err-check_layout.ensures)

pub read_header-h-requires : goal.read_header-h-requires
read_header-h-requires c = unpack_long c.args.s.now c.in_ok-check_layout.ensures

pub overflow_add-h : goal.overflow_add-h
overflow_add-h c =
    let read : LayoutRead c.args.s.now c.read_header-h.result = layout_read c.in_ok-check_layout.ensures c.read_header-h.ensures in
    omega (arith, (layout-limits read).fraction_most)

pub count-requires : goal.count-requires
count-requires c =
    let read : LayoutRead c.args.s.now c.read_header-h.result = layout_read c.in_ok-check_layout.ensures c.read_header-h.ensures in
    order-within _ (layout-limits read)

pub read_numbers-requires : goal.read_numbers-requires
read_numbers-requires c =
    let read : LayoutRead c.args.s.now c.read_header-h.result = layout_read c.in_ok-check_layout.ensures c.read_header-h.ensures in
    unpack_room read c.count.ensures c.args.v.now c.requires

pub returns : goal.returns
returns c =
    let read : LayoutRead c.args.s.now c.read_header-h.result = layout_read c.in_ok-check_layout.ensures c.read_header-h.ensures in
    unpack_accepted read c.count.ensures c.args.v.now c.read_numbers.ensures
