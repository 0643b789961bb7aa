-- The place is bounded at each turn, and no more cases differ than were run.
use Rattle.std.proofs.Common.{◌≤◌}
use Rattle.cases.proofs.run_all.Given as goal

abbrev pub invariant-loop-i : goal.invariant-loop-i
invariant-loop-i g l = (l.n ≤ 1000) × (l.place ≤ 12000) × (l.differ ≤ l.i)
