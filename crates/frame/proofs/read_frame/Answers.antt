-- Refused by 1 to 7, by 8 and 15, or by 23, or else the numbers go to the list.
use mathlib.Core.Path.{◌∙◌}
use native.Mathlib.Omega.{arith}
use Rattle.std.proofs.lemmas.List.{length-take-le}
use Rattle.std.proofs.lemmas.Result.{err_from_is_err_and}
use Rattle.job.proofs.Limits.{order-within}
use Rattle.frame.proofs.ReadJob.{unpack_limits, unpack_gives, part_long, part_within, part_small}
use Rattle.frame.proofs.Reader.{layout_decides, frame_refuses, list_decides, none_decides}
use Rattle.frame.proofs.read_frame.Goals as goal

pub returns-in_err-h : goal.returns-in_err-h
returns-in_err-h c =
    let p = err_from_is_err_and c.from_residual.result c.from_residual.ensures.1 in
    rw (p.1, p.2) (layout_decides c.args.s.now c.args.out.now _ c.in_err-h.ensures.0)

pub count-n-requires : goal.count-n-requires
count-n-requires c = order-within _ (unpack_limits _ _ c.in_ok-h.ensures)

pub slice_bounds-v-end : goal.slice_bounds-v-end
slice_bounds-v-end c = part_within (unpack_gives c.args.s.now _ c.in_ok-h.ensures c.count-n.ensures)

pub slice_bounds-check_job-end : goal.slice_bounds-check_job-end
slice_bounds-check_job-end c = part_long (unpack_gives c.args.s.now _ c.in_ok-h.ensures c.count-n.ensures)

pub check_job-requires : goal.check_job-requires
check_job-requires c = part_small (unpack_gives c.args.s.now _ c.in_ok-h.ensures c.count-n.ensures)

pub returns-in_err-check_job : goal.returns-in_err-check_job
returns-in_err-check_job c =
    let p = err_from_is_err_and c.from_residual-in_err-check_job.result c.from_residual-in_err-check_job.ensures.1 in
    rw (p.1, p.2) (frame_refuses (unpack_gives c.args.s.now _ c.in_ok-h.ensures c.count-n.ensures) c.args.out.now _ c.in_err-check_job.ensures)

pub returns-then-out-n : goal.returns-then-out-n
returns-then-out-n c =
    list_decides (unpack_gives c.args.s.now _ c.in_ok-h.ensures c.count-n.ensures) c.args.out.now c.in_ok-check_job.ensures c.if-out-n.true

pub slice_bounds-v-end-2 : goal.slice_bounds-v-end-2
slice_bounds-v-end-2 c = part_within (unpack_gives c.args.s.now _ c.in_ok-h.ensures c.count-n.ensures)

pub slice_bounds-copy_from_slice-end-3 : goal.slice_bounds-copy_from_slice-end-3
slice_bounds-copy_from_slice-end-3 c = part_long (unpack_gives c.args.s.now _ c.in_ok-h.ensures c.count-n.ensures)

pub copy_from_slice-requires : goal.copy_from_slice-requires
copy_from_slice-requires c =
    length-take-le _ c.args.out.now (omega arith) ∙ part_long (unpack_gives c.args.s.now _ c.in_ok-h.ensures c.count-n.ensures)

pub returns : goal.returns
returns c =
    none_decides (unpack_gives c.args.s.now _ c.in_ok-h.ensures c.count-n.ensures) c.args.out.now c.in_ok-check_job.ensures c.copy_from_slice.ensures.after c.if-out-n.false
