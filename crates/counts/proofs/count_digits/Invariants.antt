-- The invariant: the digits of the columns below j are counted.
use Prim.Native.Nat.{◌+◌, ◌≤◌}
use Rattle.integers.specs.Flat.{at}
use Rattle.additions.specs.Additions.{nonzero}
use Rattle.counts.proofs.Counting.{Counting}
use Rattle.counts.proofs.count_digits.Given as goal

abbrev pub invariant-loop-j : goal.invariant-loop-j
invariant-loop-j l = (l.j ≤ l.n) × Counting (λ i x. x + nonzero (at l.d i)) l.initial.times l.j l.times
