-- The invariants: `y` holds the readings of j steps, and in the inner loop its first t words hold those of j + 1.
use mathlib.Core.Path.{◌≡◌}
use Prim.Native.Nat.{◌+◌, ◌≤◌}
use Rattle.integers.specs.Flat.{list_from}
use Rattle.recurrence.specs.Recurrence.{reading}
use Rattle.state.specs.State.{digits_of}
use Rattle.evaluator.proofs.Arrays.{turned}
use Rattle.evaluator.proofs.readings_from.Given as goal

abbrev pub invariant-loop-j : goal.invariant-loop-j
invariant-loop-j g l = (l.j ≤ l.k) × (l.y ≡ list_from l.i g.row.N (reading l.r (digits_of l.digits) l.j))

abbrev pub invariant-loop-t : goal.invariant-loop-t
invariant-loop-t g l = (l.t ≤ g.row.N) × (l.y ≡ turned l.i g.row.N (reading l.r (digits_of l.digits) (l.j + 1)) (reading l.r (digits_of l.digits) l.j) l.t)
