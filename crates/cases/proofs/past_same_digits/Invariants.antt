-- The place is bounded at each turn, whatever the sizes say.
use Rattle.std.proofs.Common.{◌≤◌}
use Rattle.cases.proofs.past_same_digits.Given as goal

abbrev pub invariant-loop-i : goal.invariant-loop-i
invariant-loop-i l = l.p ≤ 12001
