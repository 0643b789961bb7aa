-- `trace::read_part` meets its contract. The first condition that holds decides. Assumes nothing.
use Rattle.bitfields.proofs.Reading.{field_lt}
use Rattle.std.proofs.lemmas.Result.{err_from_is_err_and}
use Rattle.job.proofs.Numbers.{number_positive}
use Rattle.trace.proofs.Reading.{part_beyond, part_read, part_refused}
use Rattle.trace.proofs.reader.read_part.Goals as goal

pub check_size-requires : goal.check_size-requires
check_size-requires c = (c.requires.1, rw c.read_field-k.ensures (field_lt _ 0 6))

pub returns-in_err-check_size : goal.returns-in_err-check_size
returns-in_err-check_size c =
    let a = c.args in
    let p = err_from_is_err_and c.from_residual.result c.from_residual.ensures.1 in
    rw (p.1, p.2) (part_refused a.h a.b.now c.read_field-k.result c.read_field-k.ensures _ c.in_err-check_size.ensures (number_positive _))

pub returns-then-beyond : goal.returns-then-beyond
returns-then-beyond c =
    let a = c.args in
    part_beyond a.h a.b.now c.read_field-k.result c.read_field-k.ensures c.in_ok-check_size.ensures
    c.read_digits-digits.result c.beyond.result c.read_digits-digits.ensures c.beyond.ensures c.if-beyond.true

pub returns : goal.returns
returns c =
    let a = c.args in
    part_read a.h a.b.now c.read_field-k.result c.read_field-k.ensures c.in_ok-check_size.ensures
    c.read_digits-digits.result c.beyond.result c.read_digits-digits.ensures c.beyond.ensures c.if-beyond.false
