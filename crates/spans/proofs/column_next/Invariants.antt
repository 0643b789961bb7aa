-- The invariant: the column has no entry other than 0 after row lo and before row next.
use Prim.Native.Nat.{◌+◌, ◌<◌}
use Rattle.column.specs.Column.{column, Zeros}
use Rattle.spans.proofs.column_next.Given as goal

abbrev pub invariant-loop-next : goal.invariant-loop-next
invariant-loop-next l = (l.lo < l.next) × Zeros (column l.g l.j) (l.lo + 1) l.next
