-- The number, then the newline.
use native.Mathlib.Omega.{arith}
use mir.Syntax.{w64}
use mir.Facts.{to_z-of_z}
use Rattle.table_text.proofs.Lines.{length-line, write-line}
use Rattle.table_text.proofs.put_entry.Goals as goal

pub byte-requires : goal.byte-requires
byte-requires c =
    let p = rw (to_z-of_z {w = w64} c.ranges.z) at c.signed.ensures in
    omega (arith, c.requires, length-line c.args.z, p.kept, p.put.ends)

pub returns : goal.returns
returns c =
    write-line c.args.z (rw (to_z-of_z {w = w64} c.ranges.z) at c.signed.ensures) c.byte.ensures
