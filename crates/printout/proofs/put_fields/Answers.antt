-- The five numbers, one after the other, and the newline. Each has at most 20 digits, so there is room for
-- the next.
use native.Mathlib.Omega.{arith}
use Rattle.text.specs.Text.{line_end}
use Rattle.text.proofs.Putting.{write_then, length-decimal}
use Rattle.printout.proofs.put_fields.Goals as goal

pub natural_item-requires : goal.natural_item-requires
natural_item-requires c =
    let h = c.args.h in
    omega (arith, length-decimal h.p)

pub natural_item-requires-2 : goal.natural_item-requires-2
natural_item-requires-2 c =
    let h = c.args.h in
    omega (arith, length-decimal h.p, length-decimal h.f)

pub natural_item-requires-3 : goal.natural_item-requires-3
natural_item-requires-3 c =
    let h = c.args.h in
    omega (arith, length-decimal h.p, length-decimal h.f, length-decimal h.n)

pub natural_item-requires-4 : goal.natural_item-requires-4
natural_item-requires-4 c =
    let h = c.args.h in
    omega (arith, length-decimal h.p, length-decimal h.f, length-decimal h.n, length-decimal h.m)

pub natural_item-requires-5 : goal.natural_item-requires-5
natural_item-requires-5 c =
    let h = c.args.h in
    omega (arith, length-decimal h.p, length-decimal h.f, length-decimal h.n, length-decimal h.m, length-decimal c.args.scale)

pub byte-requires : goal.byte-requires
byte-requires c =
    let h = c.args.h in
    omega (arith, length-decimal h.p, length-decimal h.f, length-decimal h.n, length-decimal h.m, length-decimal c.args.scale)

pub returns : goal.returns
unfolding line_end
returns c =
    write_then c.natural_item.ensures
    (write_then c.natural_item-2.ensures
    (write_then c.natural_item-3.ensures
    (write_then c.natural_item-4.ensures (write_then c.natural_item-5.ensures c.byte.ensures))))
