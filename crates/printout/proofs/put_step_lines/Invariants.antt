-- The loop's invariant: the lines of the first t steps are put.
use Prim.Native.Nat.{◌≤◌}
use Rattle.text.specs.Text.{Written}
use Rattle.printout.specs.Printout.{step_lines}
use Rattle.printout.proofs.put_step_lines.Given as goal

abbrev pub invariant-loop-t : goal.invariant-loop-t
invariant-loop-t l = (l.t ≤ l.k) × Written l.initial.page (step_lines l.s 1 l.t) l.page
