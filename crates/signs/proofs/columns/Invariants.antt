-- The invariant: the columns below j stand in the table, and their entries are counted.
use mathlib.Core.Path.{◌≡◌}
use Prim.Native.Nat.{◌*◌, ◌≤◌}
use Rattle.signs.specs.Inner.{Tabulated}
use Rattle.counts.specs.Inner.{column_entries}
use Rattle.spans.proofs.ColumnSpan.{Found}
use Rattle.signs.proofs.columns.Given as goal

abbrev pub invariant-loop-j : goal.invariant-loop-j
invariant-loop-j l = (l.j ≤ l.n) × Tabulated l.n l.g l.t (16 * l.j) × Found 0 (λ i x. x ≡ column_entries l.n l.g i) l.entries l.j
