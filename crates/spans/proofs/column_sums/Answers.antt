use native.Mathlib.Omega.{arith}
use Rattle.spans.proofs.ColumnSum.{may_begin, sums_begun, may-add-entries, entries-more}
use Rattle.spans.proofs.column_sums.Goals as goal

pub begin_sums-requires : goal.begin_sums-requires
begin_sums-requires c =
    let p = c.requires in
    (p.1, may_begin p.1 p.2 p.0 _ c.from.ensures, p.3 0 p.0)

pub loop-j-init : goal.loop-j-init
loop-j-init c =
    (c.requires.0, sums_begun c.requires.1 c.requires.2 c.requires.0 _ c.from.ensures c.begin_sums.ensures)

pub add_entries-requires : goal.add_entries-requires
add_entries-requires c =
    let l = c.loop-j in
    let m = c.loop-j-test.true in
    may-add-entries c.requires.1 c.requires.2 m l.invariant.1 _ c.from-in-loop-j.ensures (c.requires.3 l.j m)

pub loop-j-preserved : goal.loop-j-preserved
loop-j-preserved c =
    let l = c.loop-j in
    let m = c.loop-j-test.true in (
      omega arith,
      entries-more c.requires.1 c.requires.2 m l.invariant.1 _ c.from-in-loop-j.ensures (c.requires.3 l.j m) c.add_entries.ensures,
    )
