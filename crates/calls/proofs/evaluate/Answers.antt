-- The answer and the list are those of the calls, of which demand 3 holds.
use mathlib.Core.Path.{◌≡◌}
use native.Mathlib.Omega.{arith}
use Rattle.job.proofs.Numbers.{number_positive}
use Rattle.evaluator.specs.Evaluator.{smaller}
use Rattle.state.specs.State.{state_last}
use Rattle.job.proofs.Limits.{steps-small, scale_small}
use Rattle.accuracy.specs.Accuracy.{budgets, advances}
use Rattle.calls.proofs.Promised.{promise-refused, job_limits, job_last-small, steppable, rows_readable, promise_short, promise_done}
use Rattle.calls.proofs.evaluate.Goals as goal

pub returns-in-Err : goal.returns-in-Err
returns-in-Err c =
    let a = c.args in
    rw c.not_loaded.ensures (promise-refused a.frame.now a.budgets.now a.out.now _ c.in-Err.ensures (number_positive _))

pub last_step-requires : goal.last_step-requires
last_step-requires c =
    let a = c.args in
    let b = job_limits a.frame.now a.budgets.now a.out.now _ c.in-Ok.ensures (omega arith) in
    (steps-small _ b.0, scale_small _ _ b.1)

pub steps_allowed-made-requires : goal.steps_allowed-made-requires
steps_allowed-made-requires c =
    let a = c.args in
    rw c.last_step.ensures (job_last-small a.frame.now a.budgets.now a.out.now _ c.in-Ok.ensures (omega arith))

pub make_steps-additions-requires : goal.make_steps-additions-requires
make_steps-additions-requires c =
    let allowed : let l = c in
    c.steps_allowed-made.result ≡ smaller (state_last l.in-Ok.s) (budgets (advances l.args.budgets.now)) =
    rw c.last_step.ensures at c.steps_allowed-made.ensures in
    let l = c in
    let a = l.args in
    steppable a.frame.now a.budgets.now a.out.now _ l.in-Ok.ensures (omega arith) c.steps_allowed-made.result allowed

pub returns-then-out-h : goal.returns-then-out-h
returns-then-out-h c =
    let allowed : let l = c in
    c.steps_allowed-made.result ≡ smaller (state_last l.in-Ok.s) (budgets (advances l.args.budgets.now)) =
    rw c.last_step.ensures at c.steps_allowed-made.ensures in
    let l = c in
    let a = l.args in
    promise_short a.frame.now a.budgets.now a.out.now _ l.in-Ok.ensures (omega arith) c.steps_allowed-made.result allowed _ c.make_steps-additions.ensures.additions c.if-out-h.true

pub put_readings-requires : goal.put_readings-requires
put_readings-requires c =
    let allowed : let l = c in
    c.steps_allowed-made.result ≡ smaller (state_last l.in-Ok.s) (budgets (advances l.args.budgets.now)) =
    rw c.last_step.ensures at c.steps_allowed-made.ensures in
    let l = c in
    let a = l.args in
    (rows_readable a.frame.now a.budgets.now a.out.now _ l.in-Ok.ensures (omega arith) c.steps_allowed-made.result allowed _ c.make_steps-additions.ensures.digits, c.if-out-h.false)

pub returns : goal.returns
returns c =
    let allowed : let l = c in
    c.steps_allowed-made.result ≡ smaller (state_last l.in-Ok.s) (budgets (advances l.args.budgets.now)) =
    rw c.last_step.ensures at c.steps_allowed-made.ensures in
    let l = c in
    let a = l.args in
    promise_done a.frame.now a.budgets.now a.out.now _ l.in-Ok.ensures (omega arith) c.steps_allowed-made.result allowed _ c.make_steps-additions.ensures.digits _ c.make_steps-additions.ensures.additions _ c.if-out-h.false c.put_readings.ensures
