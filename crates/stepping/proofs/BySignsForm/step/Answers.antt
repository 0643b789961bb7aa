-- The digits are chosen, stored and listed, and the columns listed are summed.
use mathlib.Core.Path.{refl}
use native.Mathlib.Omega.{arith}
use Rattle.signs.proofs.Listing.{may-add_listed, listed_summed}
use Rattle.stepping.proofs.Stepping.{two, units_of_two, may_choose, digits-most, new_row, new_counted, stepped}
use Rattle.stepping.proofs.BySignsForm.step.Goals as goal

pub choose_and_list-count-requires : goal.choose_and_list-count-requires
choose_and_list-count-requires c =
    let p = c.requires in
    let o = units_of_two c.args.plan _ _ _ _ _ p.0.may.passes.limits p.1.1 refl refl refl refl in
    let m = may_choose p.0 o in
    (omega arith, m.0, m.1, p.2)

pub listed_sums-work-requires : goal.listed_sums-work-requires
listed_sums-work-requires c =
    let p = c.requires in
    let o = units_of_two c.args.plan _ _ _ _ (two c.args.plan) p.0.may.passes.limits p.1.1 refl refl refl refl in
    may-add_listed p.0.may.passes.limits.order_most p.1.0 (digits-most p.0 o) c.choose_and_list-count.ensures.listed

pub returns : goal.returns
returns c =
    let p = c.requires in
    let a = p.0 in
    let o = units_of_two c.args.plan _ _ _ _ (two c.args.plan) p.0.may.passes.limits p.1.1 refl refl refl refl in
    let e = c.choose_and_list-count.ensures in
    let m = listed_summed p.0.may.passes.limits.order_most p.1.0 (digits-most a o) e.listed (new_row a o e.digits) c.listed_sums-work.ensures in
    record {
      step = stepped a o e.digits e.residuals e.stored m;
      counted = new_counted a o e.digits c.args.work.now.times e.counted;
    }
