-- The invariant: the entries of the rows below i are counted. Before the span there are none.
use mathlib.Core.Path.{◌≡◌}
use Prim.Native.Nat.{◌≤◌}
use Rattle.counts.specs.Inner.{column_entries}
use Rattle.counts.proofs.column_entries.Given as goal

abbrev pub invariant-loop-i : goal.invariant-loop-i
invariant-loop-i l = (l.fn.span.start ≤ l.i) × (l.i ≤ l.n) × (l.c ≡ column_entries l.i l.g l.j)
