-- `trace::put_trace` meets its contract. The header and the steps are one field of 30 bits, and the digits
-- come after it. Assumes nothing.
use Prim.Native.Nat.{◌^◌, ◌<◌}
use native.Mathlib.Omega.{arith}
use Rattle.bitfields.proofs.Spelling.{slice_bytes}
use Rattle.trace.proofs.RoundTrip.{fit_head}
use Rattle.trace.proofs.Writing.{head_small, trace-put}
use Rattle.trace.proofs.writer.put_trace.Goals as goal

pub overflow_mul-header_number : goal.overflow_mul-header_number
overflow_mul-header_number c =
    let small : c.header_number.result < 2 ^ 24 =
    head_small c.header_number.result c.requires.0 c.header_number.ensures in
    omega (arith, small)

pub overflow_add-header_number : goal.overflow_add-header_number
overflow_add-header_number c =
    let small : c.header_number.result < 2 ^ 24 =
    head_small c.header_number.result c.requires.0 c.header_number.ensures in
    omega (arith, small)

pub write_field-requires : goal.write_field-requires
write_field-requires c =
    let small : c.header_number.result < 2 ^ 24 =
    head_small c.header_number.result c.requires.0 c.header_number.ensures in
    (omega arith, omega arith, omega arith, omega (arith, small))

pub returns : goal.returns
returns c =
    let a = c.args in
    trace-put a.h a.k a.d.now a.out.now _ _ c.header_number.result (slice_bytes a.out.now c.slice_known-1.given) (fit_head c.requires.0 c.requires.1)
    c.header_number.ensures c.write_field.ensures c.write_digits.ensures
