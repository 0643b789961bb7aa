-- The line is put into an array of its own, and as many bytes of s from the place on are held against it.
use Rattle.std.proofs.Common.{rules}
use native.Mathlib.Omega.{arith}
use mir.Syntax.{w64}
use mir.Facts.{to_z-of_z}
use Rattle.table_text.proofs.Lines.{short_line}
use Rattle.table_text.proofs.Comparing.{too_few, same_line, other_line}
use Rattle.table_text.proofs.after_line.Goals as goal

pub put_entry-requires : goal.put_entry-requires
put_entry-requires c =
    rw (to_z-of_z {w = w64} c.ranges.z) (omega (arith, short_line c.args.z c.requires.1))

pub returns-then-s-from : goal.returns-then-s-from
returns-then-s-from c =
    let line = rw (to_z-of_z {w = w64} c.ranges.z) at c.put_entry.ensures in
    let a = c.args in
    too_few a.s.now a.from a.z line.put (omega (arith, c.if-s-from.true))

pub slice_bounds-same-end-2 : goal.slice_bounds-same-end-2
slice_bounds-same-end-2 c =
    let line = rw (to_z-of_z {w = w64} c.ranges.z) at c.put_entry.ensures in
    omega (arith, line.put.ends, line.kept, short_line c.args.z c.requires.1)

pub returns-then-same : goal.returns-then-same
returns-then-same c =
    let line = rw (to_z-of_z {w = w64} c.ranges.z) at c.put_entry.ensures in
    let a = c.args in
    same_line a.s.now a.from a.z line.put (c.same.ensures.0 c.if-same.true) (search rules)

pub returns-else-same : goal.returns-else-same
returns-else-same c =
    let line = rw (to_z-of_z {w = w64} c.ranges.z) at c.put_entry.ensures in
    let a = c.args in
    other_line a.s.now a.from a.z line.put c.if-same.false c.same.ensures.1 (search rules)
