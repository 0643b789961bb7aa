use mathlib.Core.Path.{sym}
use native.Mathlib.Omega.{arith}
use Rattle.column.proofs.Added.{digit-kept}
use Rattle.spans.proofs.ColumnSum.{may_begin_row, row_begun}
use Rattle.integers.proofs.Filled.{filled_zero, filled_next}
use Rattle.spans.proofs.first_products.Goals as goal

pub loop-i-init : goal.loop-i-init
loop-i-init c = (omega arith, sym (filled_zero _ _))

pub sum_after-requires : goal.sum_after-requires
sum_after-requires c = may_begin_row c.requires.1 c.loop-i.i c.loop-i-test.true

pub loop-i-preserved : goal.loop-i-preserved
loop-i-preserved c =
    let l = c.loop-i in
    let r = row_begun c.requires.1 l.i c.loop-i-test.true _ c.sum_after.ensures in
    (omega arith, filled_next _ _ _ _ _ l.invariant.1 (rw (digit-kept c.args.d c.requires.1.digit) r))
