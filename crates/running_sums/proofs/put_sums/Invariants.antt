-- The invariant: the columns below j are put.
use Prim.Native.Nat.{◌≤◌}
use Rattle.running_sums.proofs.Put.{Put}
use Rattle.running_sums.proofs.put_sums.Given as goal

abbrev pub invariant-loop-j : goal.invariant-loop-j
invariant-loop-j l = (l.j ≤ l.n) × Put l.n l.j l.g l.d l.initial.s l.initial.out l.s l.to l.out
