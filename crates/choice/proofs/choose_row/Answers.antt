-- The row's w, its digit and its residual are small, so that the machine has them.
use native.Mathlib.Omega.{arith}
use Rattle.choice.proofs.Chosen.{w_within, d_within}
use Rattle.choice.proofs.choose_row.Goals as goal

pub narrow-digit-requires : goal.narrow-digit-requires
narrow-digit-requires c = d_within c.requires.2 _ c.shifted-w.ensures _ c.select-d.ensures (omega arith)

pub residual_after-requires : goal.residual_after-requires
residual_after-requires c =
    let p = c.requires in
    let w = c.shifted-w.ensures in
    (c.args.units.in_range.1, w_within p.2 _ w, d_within p.2 _ w _ c.select-d.ensures (omega arith))
