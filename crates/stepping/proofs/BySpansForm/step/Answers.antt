-- The digits are chosen and stored, the rows are summed with them, and they are counted.
use Rattle.stepping.proofs.Stepping.{units_of, may_choose, may-sum, stepped}
use Rattle.stepping.proofs.BySpansForm.step.Goals as goal

pub choose-requires : goal.choose-requires
choose-requires c = may_choose c.requires.0 (units_of c.args.plan _ _ _ _)

pub column_sums-requires : goal.column_sums-requires
column_sums-requires c =
    let p = c.requires in
    let l = p.0.may.passes.limits in
    (l.order_least, l.order_most, may-sum p.0 (units_of c.args.plan _ _ _ _) c.choose.ensures.digits, p.1)

pub returns : goal.returns
returns c =
    let e = c.choose.ensures in
    record {
      step = stepped c.requires.0 (units_of c.args.plan _ _ _ _) e.digits e.residuals e.stored c.column_sums.ensures.1;
      counted = c.count_digits.ensures;
    }
