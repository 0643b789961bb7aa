-- The invariant: `made` are the steps that the budgets before this one allow.
use mathlib.Core.Path.{◌≡◌}
use Prim.Native.Nat.{◌≤◌}
use lib.ListN.{length, take}
use Rattle.evaluator.specs.Evaluator.{smaller}
use Rattle.accuracy.specs.Accuracy.{budgets, advances}
use Rattle.calls.proofs.steps_allowed.Given as goal

abbrev pub invariant-loop-budget : goal.invariant-loop-budget
invariant-loop-budget l = (l.budget-index ≤ length l.list) × (l.made ≤ l.last) × (l.made ≡ smaller l.last (budgets (advances (take l.budget-index l.list))))
