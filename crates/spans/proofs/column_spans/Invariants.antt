-- The invariant: the columns below j have their span.
use Prim.Native.Nat.{◌≤◌}
use Rattle.spans.specs.Inner.{IsSpan, no_span}
use Rattle.spans.proofs.ColumnSpan.{Found}
use Rattle.spans.proofs.column_spans.Given as goal

abbrev pub invariant-loop-j : goal.invariant-loop-j
invariant-loop-j l = (l.j ≤ l.n) × Found no_span (IsSpan l.n l.g) l.spans l.j
