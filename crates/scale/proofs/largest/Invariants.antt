-- The invariant: the largest of the rows below i.
use mathlib.Core.Path.{◌≡◌}
use Prim.Native.Nat.{◌≤◌}
use Rattle.integers.specs.Flat.{at}
use Rattle.scale.specs.Inner.{peak}
use Rattle.scale.proofs.largest.Given as goal

abbrev pub invariant-loop-i : goal.invariant-loop-i
invariant-loop-i l = (l.i ≤ l.n) × (l.top ≡ peak l.i (at l.z))
