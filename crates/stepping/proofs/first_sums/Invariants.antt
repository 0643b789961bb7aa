-- The invariant: the rows have their sums over the columns below j.
use Prim.Native.Nat.{◌≤◌}
use lib.IntN.{pos}
use lib.ListN.{replicate}
use Rattle.spans.proofs.ColumnSum.{SoFar}
use Rattle.stepping.proofs.first_sums.Given as goal

abbrev pub invariant-loop-j : goal.invariant-loop-j
invariant-loop-j l = (l.j ≤ l.n) × SoFar l.n l.j l.g l.d (replicate 16 (pos 0)) l.s
