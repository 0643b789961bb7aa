-- What is made is what is left of the steps and the budget; the state is put together from the arrays that
-- the steps leave.
use mathlib.Core.Path.{◌∙◌}
use Prim.Native.Nat.{◌-◌}
use native.Mathlib.Omega.{arith}
use Rattle.job.proofs.Limits.{steps-small, scale_small}
use Rattle.state.specs.State.{PassesLimits}
use Rattle.stepping.specs.Inner.{MayStep}
use Rattle.evaluator.proofs.Calls.{smaller-min, smaller-most, advance_refuses, advance_makes, advance_takes}
use Rattle.stepping.proofs.Stepping.{busy_whole, steps_whole}
use Rattle.evaluator.proofs.advance.Goals as goal

pub returns-in-Err : goal.returns-in-Err
returns-in-Err c = advance_refuses c.args.s c.args.budget _ c.in-Err.ensures

pub last_step-requires : goal.last_step-requires
last_step-requires c =
    let s = c.args.s in
    let p : PassesLimits s = (advance_takes s c.args.budget c.in_default.ensures).1 in
    (steps-small s.header p.limits, scale_small s.header s.scale p.scaled)

pub overflow_sub-last_step : goal.overflow_sub-last_step
overflow_sub-last_step c = omega (arith, (advance_takes c.args.s c.args.budget c.in_default.ensures).1.steps, c.last_step.ensures)

pub make_steps-additions-requires : goal.make_steps-additions-requires
make_steps-additions-requires c =
    let s = c.args.s in
    let t = advance_takes s c.args.budget c.in_default.ensures in
    let may-step : MayStep s c.min-made.result =
    record {
      passes = t.1;
      room = c.well_formed.0.1.1.1.1.1.1.1.1.0.1.0.1;
      left = omega (arith, t.2, (c.min-made.ensures ∙ smaller-min _ _), smaller-most c.args.budget (c.last_step.result - s.k), c.last_step.ensures);
    } in
    rw (busy_whole s t.0) may-step

pub returns : goal.returns
returns c =
    let s = c.args.s in
    let n = c.in_default.ensures in
    let m = rw (busy_whole s (advance_takes s c.args.budget n).0) at c.make_steps-additions.ensures in
    advance_makes s c.args.budget n _ _ _ _ c.last_step.ensures (c.min-made.ensures ∙ smaller-min _ _) m.additions (steps_whole s _ _ _ m.residuals m.digits)
