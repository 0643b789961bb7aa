-- The invariant: the column has no entry other than 0 in the pairs of rows seen.
use Prim.Native.Nat.{◌-◌, ◌*◌}
use Rattle.column.specs.Column.{column, Zeros}
use Rattle.spans.proofs.column_end.Given as goal

abbrev pub invariant-loop-pair : goal.invariant-loop-pair
invariant-loop-pair l = Zeros (column l.g l.j) (l.n - 2 * l.pair) l.n
