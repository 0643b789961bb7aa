-- Refused by 1 to 7, or by 8 and 15, or else the fresh state of the job.
use mathlib.Core.Path.{refl}
use Rattle.std.proofs.Common.{rules}
use Rattle.std.proofs.lemmas.Result.{err_from_is_err_and}
use Rattle.job.proofs.Limits.{order-within}
use Rattle.frame.proofs.ReadJob.{unpack_limits, unpack_gives, part_long, part_within, part_small}
use Rattle.evaluator.proofs.Loading.{load_short, load_scales, load_refuses, load_makes}
use Rattle.evaluator.proofs.load.Goals as goal

pub returns-in_err-h : goal.returns-in_err-h
returns-in_err-h c =
    let p = err_from_is_err_and c.from_residual.result c.from_residual.ensures.1 in
    rw (p.1, p.2) (load_short c.args.s.now _ c.in_err-h.ensures.0)

pub count-n-requires : goal.count-n-requires
count-n-requires c = order-within _ (unpack_limits _ _ c.in_ok-h.ensures)

pub slice_bounds-v-end : goal.slice_bounds-v-end
slice_bounds-v-end c = part_within (unpack_gives c.args.s.now _ c.in_ok-h.ensures c.count-n.ensures)

pub slice_bounds-numbers-end : goal.slice_bounds-numbers-end
slice_bounds-numbers-end c = part_long (unpack_gives c.args.s.now _ c.in_ok-h.ensures c.count-n.ensures)

pub right_sides-z-requires : goal.right_sides-z-requires
right_sides-z-requires c =
    let p = part_small (unpack_gives c.args.s.now _ c.in_ok-h.ensures c.count-n.ensures) in (p.0, p.1.enough)

pub place_matrix-requires : goal.place_matrix-requires
place_matrix-requires c =
    let p = part_small (unpack_gives c.args.s.now _ c.in_ok-h.ensures c.count-n.ensures) in (p.0, p.1, refl)

pub scale-scale-requires : goal.scale-scale-requires
scale-scale-requires c = load_scales (unpack_gives c.args.s.now _ c.in_ok-h.ensures c.count-n.ensures) c.right_sides-z.ensures

pub check_system-requires : goal.check_system-requires
check_system-requires c =
    let p = part_small (unpack_gives c.args.s.now _ c.in_ok-h.ensures c.count-n.ensures) in (p.0, search rules)

pub returns-in_err-check_system : goal.returns-in_err-check_system
returns-in_err-check_system c =
    let p = err_from_is_err_and c.from_residual-in_err-check_system.result c.from_residual-in_err-check_system.ensures.1 in
    rw (p.1, p.2)
    (load_refuses (unpack_gives c.args.s.now _ c.in_ok-h.ensures c.count-n.ensures) c.place_matrix.ensures c.right_sides-z.ensures c.scale-scale.ensures
    _ c.in_err-check_system.ensures)

pub returns : goal.returns
returns c =
    load_makes (unpack_gives c.args.s.now _ c.in_ok-h.ensures c.count-n.ensures) c.place_matrix.ensures c.right_sides-z.ensures c.scale-scale.ensures
    c.in_ok-check_system.ensures
