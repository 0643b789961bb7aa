-- The rows before row i are none of them too heavy, and within row i the room left is the limit less the
-- weight of the entries before j.
use mathlib.Core.Path.{◌≡◌}
use Prim.Native.Nat.{◌≤◌}
use Rattle.std.specs.Prelude.{None}
use Rattle.integers.specs.Flat.{entry}
use Rattle.integers.specs.Sum.{weight}
use Rattle.system.proofs.Weighing.{RoomLeft}
use Rattle.system.specs.Inner.{too_heavy}
use Rattle.system.specs.Rows.{Never}
use Rattle.system.proofs.first_heavy.Given as goal

abbrev pub invariant-loop-j : goal.invariant-loop-j
invariant-loop-j l = (l.j ≤ l.n) × (l.heavy ≡ None) × RoomLeft l.limit l.room (weight l.j (entry l.g l.i))

abbrev pub invariant-rows : goal.invariant-rows
invariant-rows l = (l.i ≤ l.n) × (l.heavy ≡ None) × Never l.i (too_heavy l.limit l.n l.g)
