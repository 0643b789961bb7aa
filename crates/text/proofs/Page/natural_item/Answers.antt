-- A space, then the number.
use Rattle.std.proofs.Common.{arith}
use Rattle.text.proofs.Putting.{write_then}
use Rattle.text.proofs.Page.natural_item.Goals as goal

pub decimal-requires : goal.decimal-requires
decimal-requires c = omega arith

pub returns : goal.returns
returns c = write_then c.byte.ensures c.decimal.ensures
