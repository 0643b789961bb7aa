use Prim.Native.Nat.{suc}
use native.Mathlib.Omega.{arith}
use Rattle.integers.specs.Flat.{entry}
use Rattle.state.specs.State.{digits_of}
use Rattle.printout.proofs.Lines.{spaced_start, digit_read, next-room, end_room, spaced_next, spaced_all}
use Rattle.printout.proofs.put_digits.Goals as goal

pub loop-i-init : goal.loop-i-init
loop-i-init c = (omega arith, spaced_start (digits_of c.args.digits.now (suc c.args.t)))

pub item-requires : goal.item-requires
item-requires c =
    next-room (digits_of c.args.digits.now (suc c.args.t)) c.loop-i.invariant.1 c.requires.2 _ (omega arith)

pub loop-i-preserved : goal.loop-i-preserved
loop-i-preserved c =
    let a = c.args in (
      omega arith,
      spaced_next (digits_of a.digits.now (suc a.t))
          (digit_read (entry a.digits.now a.t c.loop-i.i) c.from.result c.from-arg-1.given c.from.type_inv c.from.ensures)
          c.loop-i.invariant.1
          c.item.ensures,
    )

pub byte-requires : goal.byte-requires
byte-requires c = end_room (digits_of c.args.digits.now (suc c.args.t)) c.loop-i.invariant.1 c.requires.2 (omega arith)

pub returns : goal.returns
returns c =
    let a = c.args in
    spaced_all (digits_of a.digits.now (suc a.t)) (omega arith) c.loop-i.invariant.1 c.byte.ensures
