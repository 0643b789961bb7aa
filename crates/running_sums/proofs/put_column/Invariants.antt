-- The invariant: the sums of the rows from i on are left to be stored after the column's number.
use mathlib.Core.Path.{◌≡◌}
use Prim.Native.Nat.{◌+◌, ◌≤◌}
use lib.ListN.{length}
use Rattle.integers.specs.Flat.{at}
use Rattle.running_sums.proofs.Stored.{Left}
use Rattle.running_sums.proofs.put_column.Given as goal

abbrev pub invariant-loop-i : goal.invariant-loop-i
invariant-loop-i l = (l.i ≤ l.n) × (length l.out ≡ length l.initial.out) × Left (at l.s) l.n (l.to + 1) l.initial.out l.out l.i
