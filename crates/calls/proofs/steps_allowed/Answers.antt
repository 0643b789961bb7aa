use mathlib.Core.Path.{◌≡◌, ◌∙◌}
use Prim.Native.Nat.{◌+◌, ◌≤◌}
use native.Mathlib.Omega.{arith}
use lib.ListN.{take}
use Rattle.evaluator.specs.Evaluator.{smaller}
use Rattle.accuracy.specs.Accuracy.{budgets, advances}
use Rattle.accuracy.proofs.Runs.{allowed_none, allowed_most, allowed_more}
use Rattle.evaluator.proofs.Calls.{smaller-min}
use Rattle.calls.proofs.steps_allowed.Goals as goal

pub loop-budget-init : goal.loop-budget-init
loop-budget-init c = (omega arith, omega arith, allowed_none _ c.args.list.now)

pub loop-budget-preserved : goal.loop-budget-preserved
loop-budget-preserved c =
    let next : let l = c.loop-budget in let a = c.args in
    (l.made + c.min.result ≡ smaller a.last (budgets (advances (take (l.budget-index + 1) a.list.now)))) × (l.made + c.min.result ≤ a.last) =
    let l = c.loop-budget in
    let a = c.args in
    let e = allowed_more a.last l.made c.min.result a.list.now l.budget-index (omega arith) l.invariant.2 (c.min.ensures ∙ smaller-min _ _) in
    (e, allowed_most a.last _ _ e) in
    let n = next in (omega arith, n.1, n.0)
