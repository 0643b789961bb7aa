-- The first condition that holds decides.
use Rattle.std.proofs.Common.{ap, not}
use Rattle.frame.proofs.Writer.{count_decides, fit_decides, numbers-sent, rows_decide}
use Rattle.frame.proofs.check_numbers.Goals as goal

pub returns-then-v-count : goal.returns-then-v-count
returns-then-v-count c = count_decides c.args.h c.args.v.now c.count.ensures c.if-v-count.true

pub returns-then-not-all_fit : goal.returns-then-not-all_fit
returns-then-not-all_fit c =
    let a = c.args in
    fit_decides a.h a.v.now c.count.ensures c.if-v-count.false c.all_fit.ensures (ap not c.if-not-all_fit.true)

pub check_job-requires : goal.check_job-requires
check_job-requires c =
    let a = c.args in
    numbers-sent a.h a.v.now c.count.ensures c.if-v-count.false c.all_fit.ensures (ap not c.if-not-all_fit.false) c.requires

pub returns : goal.returns
returns c =
    let a = c.args in
    rows_decide a.h a.v.now c.count.ensures c.if-v-count.false c.all_fit.ensures (ap not c.if-not-all_fit.false) c.check_job.ensures
