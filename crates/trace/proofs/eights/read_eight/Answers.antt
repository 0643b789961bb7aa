-- `trace::read_eight` meets its contract. Assumes nothing.
use Prim.Native.Nat.{◌*◌}
use native.Mathlib.Omega.{arith}
use Rattle.bitfields.proofs.Reading.{field_lt}
use Rattle.trace.proofs.Groups.{eight_fits}
use Rattle.trace.proofs.eights.read_eight.Goals as goal

pub overflow_mul-result : goal.overflow_mul-result
overflow_mul-result c =
    let a = c.args in
    rw (c.read_field.ensures, c.pow2.ensures) (omega (arith, eight_fits a.c (omega arith) (field_lt a.b.now a.p (5 * a.c))))
