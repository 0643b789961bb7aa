-- The invariant: the rows have their sums over the columns below j.
use Prim.Native.Nat.{◌≤◌}
use Rattle.spans.proofs.ColumnSum.{SoFar}
use Rattle.spans.proofs.column_sums.Given as goal

abbrev pub invariant-loop-j : goal.invariant-loop-j
invariant-loop-j l = (l.j ≤ l.n) × SoFar l.n l.j l.g l.d l.initial.s l.s
