-- The readings are not refused, and are those of the state.
use native.Mathlib.Omega.{arith}
use Rattle.text.proofs.Putting.{write_then}
use Rattle.printout.proofs.Jobs.{order_small, readings-put}
use Rattle.printout.proofs.put_readings_line.Goals as goal

pub put_numbers-requires : goal.put_numbers-requires
put_numbers-requires c = (order_small c.args.s c.requires.0, omega arith)

pub returns : goal.returns
returns c =
    write_then c.byte.ensures (readings-put c.args.s c.requires.0 _ _ (omega arith) c.readings.ensures.list c.put_numbers.ensures)
