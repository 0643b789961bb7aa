-- The invariant: the rows below i are chosen, their digits counted, and the columns below i that are not
-- skipped are listed. There are at most i of them, so that one more has room.
use Prim.Native.Nat.{◌+◌, ◌≤◌}
use Rattle.additions.specs.Additions.{nonzero}
use Rattle.choice.specs.Inner.{digit_from}
use Rattle.signs.specs.Inner.{Listed}
use Rattle.choice.proofs.Chosen.{Chosen}
use Rattle.counts.proofs.Counting.{Counting}
use Rattle.choice.proofs.choose_and_list.Given as goal

abbrev pub invariant-loop-i : goal.invariant-loop-i
invariant-loop-i l = (l.i ≤ l.n) × Chosen l.k l.units l.s l.initial.z l.initial.new l.initial.digits l.i l.z l.new l.digits × Listed l.i (digit_from l.units l.initial.z l.s) l.list l.count
    × Counting (λ j x. x + nonzero (digit_from l.units l.initial.z l.s j)) l.initial.times l.i l.times
