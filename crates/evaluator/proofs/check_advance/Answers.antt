-- The state's refusals come first.
use Rattle.std.proofs.lemmas.Result.{err_from_is_err_and}
use Rattle.job.proofs.Limits.{steps-small, scale_small}
use Rattle.evaluator.proofs.Calls.{unrefused_limits, state_decides, budget_decides, last_decides, none_decides}
use Rattle.evaluator.proofs.check_advance.Goals as goal

pub returns-in_err-check : goal.returns-in_err-check
returns-in_err-check c =
    let p = err_from_is_err_and c.from_residual.result c.from_residual.ensures.1 in
    rw (p.1, p.2) (state_decides c.args.s.now c.args.budget _ c.in_err-check.ensures)

pub returns-then-budget-eq0 : goal.returns-then-budget-eq0
returns-then-budget-eq0 c = budget_decides c.args.s.now c.args.budget c.in_ok-check.ensures c.if-budget-eq0.true

pub last_step-requires : goal.last_step-requires
last_step-requires c =
    let s = c.args.s.now in
    let l = unrefused_limits s c.in_ok-check.ensures in
    (steps-small s.header l.0, scale_small s.header s.scale l.1)

pub returns-then-last_step-s : goal.returns-then-last_step-s
returns-then-last_step-s c =
    last_decides c.args.s.now c.args.budget c.in_ok-check.ensures c.if-budget-eq0.false c.last_step.ensures c.if-last_step-s.true

pub returns : goal.returns
returns c =
    none_decides c.args.s.now c.args.budget c.in_ok-check.ensures c.if-budget-eq0.false c.last_step.ensures c.if-last_step-s.false
