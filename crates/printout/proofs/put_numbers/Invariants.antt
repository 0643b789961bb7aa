-- The loop's invariant: the first i numbers are put.
use Prim.Native.Nat.{◌≤◌}
use Rattle.integers.specs.Flat.{at}
use Rattle.text.specs.Text.{Written}
use Rattle.printout.proofs.Lines.{spaced}
use Rattle.printout.proofs.put_numbers.Given as goal

abbrev pub invariant-loop-i : goal.invariant-loop-i
invariant-loop-i l = (l.i ≤ l.n) × Written l.initial.page (spaced l.i (at l.y)) l.page
