-- A space, then the number.
use Rattle.std.proofs.Common.{arith}
use mir.Syntax.{w64}
use mir.Facts.{to_z-of_z}
use Rattle.text.proofs.Putting.{write_then}
use Rattle.text.proofs.Page.item.Goals as goal

pub signed-requires : goal.signed-requires
signed-requires c = rw (to_z-of_z {w = w64} c.ranges.z) (omega arith)

pub returns : goal.returns
returns c = write_then c.byte.ensures (rw (to_z-of_z {w = w64} c.ranges.z) at c.signed.ensures)
