use mathlib.Core.Path.{sym}
use native.Mathlib.Omega.{arith}
use Rattle.integers.proofs.Filled.{filled_zero, filled_next}
use Rattle.signs.proofs.Table.{added-fits, added_is}
use Rattle.signs.proofs.add_rows.Goals as goal

pub loop-i-init : goal.loop-i-init
loop-i-init c = (omega arith, sym (filled_zero _ _))

pub overflow_add-s-in-loop-i : goal.overflow_add-s-in-loop-i
overflow_add-s-in-loop-i c =
    added-fits c.requires c.loop-i.s c.loop-i.i c.loop-i-test.true c.loop-i.invariant.1

pub loop-i-preserved : goal.loop-i-preserved
loop-i-preserved c =
    (omega arith, filled_next _ _ _ _ _ c.loop-i.invariant.1 (added_is c.requires c.loop-i.s c.loop-i.i c.loop-i-test.true c.loop-i.invariant.1))
