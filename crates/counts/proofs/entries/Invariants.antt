-- The invariant: the entries of the columns below j are counted.
use mathlib.Core.Path.{◌≡◌}
use Prim.Native.Nat.{◌≤◌}
use Rattle.counts.specs.Inner.{column_entries}
use Rattle.spans.proofs.ColumnSpan.{Found}
use Rattle.counts.proofs.entries.Given as goal

abbrev pub invariant-loop-j : goal.invariant-loop-j
invariant-loop-j l = (l.j ≤ l.n) × Found 0 (λ i x. x ≡ column_entries l.n l.g i) l.e l.j
