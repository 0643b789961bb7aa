-- The invariant: the rows from lo on and below i have column j added.
use mathlib.Core.Path.{◌≡◌}
use Prim.Native.Nat.{◌+◌, ◌-◌, ◌≤◌}
use Rattle.integers.specs.Flat.{stores}
use Rattle.column.specs.Column.{column_added}
use Rattle.column.proofs.add_column.Given as goal

abbrev pub invariant-loop-i : goal.invariant-loop-i
invariant-loop-i l = (l.lo ≤ l.i) × (l.i - l.lo ≤ l.hi - l.lo) × (l.s ≡ stores l.initial.s (λ t. l.lo + t) (column_added l.g l.j l.lo l.d l.initial.s) (l.i - l.lo))
