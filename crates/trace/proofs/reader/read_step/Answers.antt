-- `trace::read_step` meets its contract. At most eight rows are one field, and more are two. Assumes nothing.
use Prim.Native.Nat.{◌+◌, ◌-◌, ◌*◌}
use native.Mathlib.Omega.{arith}
use Rattle.bitfields.proofs.Reading.{field_lt}
use Rattle.trace.proofs.Groups.{eight_fits, step_read, steps_read}
use Rattle.trace.proofs.reader.read_step.Goals as goal

pub store_eight-requires : goal.store_eight-requires
store_eight-requires c =
    let a = c.args in
    (rw c.read_eight.ensures (eight_fits a.n c.if-n-le8.true (field_lt a.b.now a.p (5 * a.n))), omega arith)

pub returns-then-n-le8 : goal.returns-then-n-le8
returns-then-n-le8 c =
    let a = c.args in
    step_read a.b.now a.d.now _ a.p a.n a.at c.read_eight.result c.requires.0 c.if-n-le8.true c.requires.5
    c.read_eight.ensures c.store_eight.ensures

pub store_eight-requires-2 : goal.store_eight-requires-2
store_eight-requires-2 c =
    let a = c.args in
    (rw c.read_field.ensures (field_lt a.b.now a.p 40), omega arith)

pub store_eight-requires-3 : goal.store_eight-requires-3
store_eight-requires-3 c =
    let a = c.args in
    (rw c.read_eight-2.ensures (eight_fits (a.n - 8) (omega arith) (field_lt a.b.now (a.p + 40) (5 * (a.n - 8)))), omega arith)

pub returns : goal.returns
returns c =
    let a = c.args in
    steps_read a.b.now a.d.now _ _ a.p a.n a.at c.read_field.result c.read_eight-2.result c.requires.0 c.if-n-le8.false c.requires.2 c.requires.5
    c.read_field.ensures c.store_eight-2.ensures c.read_eight-2.ensures c.store_eight-3.ensures
