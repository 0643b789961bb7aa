-- No right side before row i is too large.
use Prim.Native.Nat.{◌≤◌}
use Rattle.system.specs.Inner.{too_large}
use Rattle.system.specs.Rows.{Never}
use Rattle.system.proofs.first_large.Given as goal

abbrev pub invariant-loop-i : goal.invariant-loop-i
invariant-loop-i l = (l.i ≤ l.n) × Never l.i (too_large l.most l.z)
