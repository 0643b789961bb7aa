-- The invariant: the rows below i have their sums.
use mathlib.Core.Path.{◌≡◌}
use Prim.Native.Nat.{◌≤◌}
use Rattle.integers.specs.Flat.{filled}
use Rattle.signs.specs.Inner.{added}
use Rattle.signs.proofs.add_rows.Given as goal

abbrev pub invariant-loop-i : goal.invariant-loop-i
invariant-loop-i l = (l.i ≤ 16) × (l.s ≡ filled (added l.t l.place l.initial.s) l.initial.s l.i)
