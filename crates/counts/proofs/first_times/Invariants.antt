-- The invariant: the columns below j have their count, and the others 0.
use Prim.Native.Nat.{◌≤◌}
use lib.ListN.{replicate}
use Rattle.additions.specs.Additions.{nonzero}
use Rattle.state.specs.State.{digits_of}
use Rattle.counts.proofs.Counting.{Counting}
use Rattle.counts.proofs.first_times.Given as goal

abbrev pub invariant-loop-j : goal.invariant-loop-j
invariant-loop-j l = (l.j ≤ 16) × Counting (λ i x. nonzero (digits_of l.digits l.k i)) (replicate 16 0) l.j l.t
