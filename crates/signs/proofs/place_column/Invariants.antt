-- The invariant: the rows below i of column j stand in the table, and their entries are counted.
use mathlib.Core.Path.{◌≡◌}
use Prim.Native.Nat.{◌+◌, ◌*◌, ◌≤◌}
use Rattle.signs.specs.Inner.{Tabulated}
use Rattle.counts.specs.Inner.{column_entries}
use Rattle.signs.proofs.place_column.Given as goal

abbrev pub invariant-loop-i : goal.invariant-loop-i
invariant-loop-i l = (l.i ≤ l.n) × Tabulated l.n l.g l.t (16 * l.j + l.i) × (l.c ≡ column_entries l.i l.g l.j)
