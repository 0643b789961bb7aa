use native.Mathlib.Omega.{arith}
use Rattle.integers.specs.Flat.{at}
use Rattle.integers.proofs.Machine.{i64_kept}
use Rattle.printout.proofs.Lines.{spaced_start, next-room, end_room, spaced_next, spaced_all}
use Rattle.printout.proofs.put_numbers.Goals as goal

pub loop-i-init : goal.loop-i-init
loop-i-init c = (omega arith, spaced_start (at c.args.y.now))

pub item-requires : goal.item-requires
item-requires c = next-room (at c.args.y.now) c.loop-i.invariant.1 c.requires.1 _ (omega arith)

pub loop-i-preserved : goal.loop-i-preserved
loop-i-preserved c =
    let a = c.args in (
      omega arith,
      spaced_next (at a.y.now) (i64_kept (at a.y.now c.loop-i.i) c.item-arg-in-loop-i-1.given) c.loop-i.invariant.1 c.item.ensures,
    )

pub byte-requires : goal.byte-requires
byte-requires c = end_room (at c.args.y.now) c.loop-i.invariant.1 c.requires.1 (omega arith)

pub returns : goal.returns
returns c = spaced_all (at c.args.y.now) (omega arith) c.loop-i.invariant.1 c.byte.ensures
