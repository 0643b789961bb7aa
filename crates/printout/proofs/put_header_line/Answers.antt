-- The kind, the radix and the other fields.
use native.Mathlib.Omega.{arith}
use Rattle.text.specs.Text.{line_end}
use Rattle.text.proofs.Putting.{write_then, length-decimal}
use Rattle.printout.proofs.put_header_line.Goals as goal

pub decimal-requires : goal.decimal-requires
decimal-requires c = omega (arith, length-decimal c.args.h.kind)

pub natural_item-requires : goal.natural_item-requires
natural_item-requires c =
    let h = c.args.h in
    omega (arith, length-decimal h.kind, length-decimal c.radix.result)

pub put_fields-requires : goal.put_fields-requires
put_fields-requires c =
    let h = c.args.h in
    omega (arith, length-decimal h.kind, length-decimal c.radix.result)

pub returns : goal.returns
unfolding line_end
returns c =
    rw (← c.radix.ensures) (write_then c.decimal.ensures (write_then c.natural_item.ensures c.put_fields.ensures))
