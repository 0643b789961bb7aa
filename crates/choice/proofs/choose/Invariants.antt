-- The invariant: the rows below i are chosen.
use Prim.Native.Nat.{◌≤◌}
use Rattle.choice.proofs.Chosen.{Chosen}
use Rattle.choice.proofs.choose.Given as goal

abbrev pub invariant-loop-i : goal.invariant-loop-i
invariant-loop-i l = (l.i ≤ l.n) × Chosen l.k l.units l.s l.initial.z l.initial.new l.initial.digits l.i l.z l.new l.digits
