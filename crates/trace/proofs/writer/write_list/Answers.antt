-- `trace::write_list` meets its contract. Assumes nothing.
use Prim.Native.Nat.{◌*◌, ◌/◌, ◌%◌}
use native.Mathlib.Omega.{arith}
use Rattle.trace.proofs.Groups.{digits-number-fits}
use Rattle.trace.proofs.Writing.{fits-inside, rest_put}
use Rattle.trace.proofs.writer.write_list.Goals as goal

pub write_field-requires : goal.write_field-requires
write_field-requires c =
    let m = c.args.m in
    (omega (arith, c.write_eights.auto.out), omega arith, omega arith, rw c.digits_number.ensures (digits-number-fits (fits-inside c.requires.2 (8 * (m / 8)) (m % 8) (omega arith)) (m % 8) (omega arith)))

pub returns-then-c-gt0 : goal.returns-then-c-gt0
returns-then-c-gt0 c =
    let a = c.args in
    rest_put a.e.now a.out.now _ _ a.m c.digits_number.result c.requires.2 c.write_eights.ensures c.digits_number.ensures c.write_field.ensures
