use mathlib.Core.Path.{◌≡◌}
use native.Mathlib.Omega.{arith}
use mir.Syntax.{w64}
use mir.Val.{to_z, of_z}
use Rattle.integers.specs.Flat.{at}
use Rattle.selection.specs.Selection.{selection_table}
use Rattle.selection.proofs.Chosen.{entry-small}
use Rattle.selection.proofs.Digit.{entry_read}
use Rattle.table_text.proofs.Comparing.{none_agreed, other_agree, next_agreed, none_differs, more_follows}
use Rattle.table_text.proofs.compare_table.Goals as goal

pub loop-k-init : goal.loop-k-init
loop-k-init c = none_agreed c.args.s.now

pub after_line-requires : goal.after_line-requires
after_line-requires c =
    let entry : to_z w64 (of_z w64 c.from.result) ≡ at selection_table c.loop-k.k =
    let l = c in
    entry_read l.loop-k.k (omega arith) l.table-t.result c.from.result l.table-t.ensures c.from.ensures in
    let l = c in
    (l.loop-k.invariant.inside, rw entry (entry-small l.loop-k.k (omega arith)))

pub returns-in_default : goal.returns-in_default
returns-in_default c =
    let entry : to_z w64 (of_z w64 c.from.result) ≡ at selection_table c.loop-k.k =
    let l = c in
    entry_read l.loop-k.k (omega arith) l.table-t.result c.from.result l.table-t.ensures c.from.ensures in
    let l = c in
    other_agree l.args.s.now l.loop-k.invariant (omega arith) entry c.in_default.ensures

pub loop-k-preserved : goal.loop-k-preserved
loop-k-preserved c =
    let entry : to_z w64 (of_z w64 c.from.result) ≡ at selection_table c.loop-k.k =
    let l = c in
    entry_read l.loop-k.k (omega arith) l.table-t.result c.from.result l.table-t.ensures c.from.ensures in
    let l = c in
    next_agreed l.args.s.now l.loop-k.invariant (omega arith) entry c.in-Some.ensures

pub returns-then-s-at : goal.returns-then-s-at
returns-then-s-at c = none_differs c.args.s.now c.loop-k.invariant (omega arith) c.if-s-at.true

pub returns-else-s-at : goal.returns-else-s-at
returns-else-s-at c = more_follows c.args.s.now c.loop-k.invariant (omega arith) c.if-s-at.false
