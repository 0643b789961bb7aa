use native.Mathlib.Omega.{arith}
use Rattle.choice.proofs.Chosen.{chosen_none, may_choose_next, chosen_next}
use Rattle.choice.proofs.choose.Goals as goal

pub loop-i-init : goal.loop-i-init
loop-i-init c = (omega arith, chosen_none)

pub choose_row-requires : goal.choose_row-requires
choose_row-requires c =
    let l = c.loop-i in
    let p = c.requires in
    let t = c.loop-i-test.true in
    (omega (arith, t, p.1.order), p.0, may_choose_next l.invariant.1 (p.1.rows l.i t))

pub loop-i-preserved : goal.loop-i-preserved
loop-i-preserved c =
    let e = c.choose_row.ensures in
    (omega arith, chosen_next c.loop-i.invariant.1 e.newest e.stored e.residual)
