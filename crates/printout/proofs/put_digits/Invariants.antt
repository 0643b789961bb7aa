-- The loop's invariant: the digits of the first i rows are put.
use Prim.Native.Nat.{suc, ◌≤◌}
use Rattle.state.specs.State.{digits_of}
use Rattle.text.specs.Text.{Written}
use Rattle.printout.proofs.Lines.{spaced}
use Rattle.printout.proofs.put_digits.Given as goal

abbrev pub invariant-loop-i : goal.invariant-loop-i
invariant-loop-i l = (l.i ≤ l.n) × Written l.initial.page (spaced l.i (digits_of l.digits (suc l.t))) l.page
