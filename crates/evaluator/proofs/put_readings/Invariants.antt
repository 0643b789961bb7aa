-- The invariant: the list's first 2 i words are the readings of as many rows, and the others are as they came.
use mathlib.Core.Path.{◌≡◌}
use Prim.Native.Nat.{◌*◌, ◌≤◌}
use lib.ListN.{length}
use Rattle.recurrence.specs.Recurrence.{reading}
use Rattle.state.specs.State.{digits_of}
use Rattle.evaluator.proofs.Arrays.{replaced}
use Rattle.evaluator.proofs.put_readings.Given as goal

abbrev pub invariant-loop-i : goal.invariant-loop-i
invariant-loop-i l = (2 * l.i ≤ l.n) × (length l.out ≡ length l.initial.out) × (l.out ≡ replaced l.initial.out l.n (reading l.r (digits_of l.digits) l.k) (2 * l.i))
