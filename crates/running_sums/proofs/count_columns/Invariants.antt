-- The invariant: `count` is how many of the columns below j are not skipped, at most j.
use mathlib.Core.Path.{◌≡◌}
use Prim.Native.Nat.{◌≤◌}
use Rattle.integers.specs.Flat.{at}
use Rattle.running_sums.specs.RunningSums.{columns_below}
use Rattle.running_sums.proofs.count_columns.Given as goal

abbrev pub invariant-loop-j : goal.invariant-loop-j
invariant-loop-j l = (l.j ≤ l.n) × (l.count ≤ l.j) × (l.count ≡ columns_below (at l.d) l.j)
