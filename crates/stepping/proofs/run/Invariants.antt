-- The invariant: the arrays are the state's after j steps, and the digits up to then are counted.
use Prim.Native.Nat.{◌≤◌}
use Rattle.stepping.specs.Inner.{state_at}
use Rattle.stepping.proofs.Stepping.{Reached}
use Rattle.stepping.proofs.Counted.{Counted}
use Rattle.stepping.proofs.run.Given as goal

abbrev pub invariant-loop-j : goal.invariant-loop-j
invariant-loop-j g l =
    let s = state_at l.plan l.k l.g l.initial.z l.initial.digits in
    (l.j ≤ l.made) × Reached s l.j l.digits l.z l.before l.work.sums × Counted s l.j l.work.times
