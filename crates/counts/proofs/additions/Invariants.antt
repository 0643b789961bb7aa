-- The invariant: the additions of the columns below j.
use mathlib.Core.Path.{◌≡◌}
use Prim.Native.Nat.{◌*◌, ◌-◌, ◌≤◌}
use lib.ListN.{get_or}
use Rattle.integers.specs.Sum.{total}
use Rattle.additions.specs.Additions.{nonzero}
use Rattle.state.specs.State.{digits_of}
use Rattle.counts.proofs.additions.Given as goal

abbrev pub invariant-loop-j : goal.invariant-loop-j
invariant-loop-j l = (l.j ≤ l.n) × (l.a ≡ total l.j (λ i. (get_or l.t i 0 - nonzero (digits_of l.digits l.k i)) * get_or l.e i 0))
