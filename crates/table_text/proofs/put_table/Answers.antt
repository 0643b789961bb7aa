use native.Mathlib.Omega.{arith}
use Rattle.table_text.proofs.Lines.{lines_start, line-room, lines_next, lines_all}
use Rattle.table_text.proofs.Entries.{entry-made}
use Rattle.table_text.proofs.put_table.Goals as goal

pub loop-k-init : goal.loop-k-init
loop-k-init c = (omega arith, lines_start)

pub put_entry-requires : goal.put_entry-requires
put_entry-requires c =
    let n = c.nearest-z in
    line-room c.loop-k.k c.loop-k.invariant.1 (omega arith) (entry-made c.loop-k.k (omega arith) n.result n.ensures) c.requires

pub loop-k-preserved : goal.loop-k-preserved
loop-k-preserved c =
    let n = c.nearest-z in
    (omega arith, lines_next c.loop-k.k c.loop-k.invariant.1 (omega arith) (entry-made c.loop-k.k (omega arith) n.result n.ensures) c.put_entry.ensures)

pub returns : goal.returns
returns c = lines_all c.loop-k.k c.loop-k.invariant.1 (omega arith)
