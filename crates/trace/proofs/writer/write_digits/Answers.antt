-- `trace::write_digits` meets its contract. Assumes nothing.
use Prim.Native.Nat.{◌*◌}
use native.Mathlib.Omega.{arith}
use Rattle.trace.specs.Trace.{digit_list}
use Rattle.trace.proofs.Digits.{list-fits}
use Rattle.trace.proofs.Steps.{digit_count}
use Rattle.trace.proofs.Writing.{list_five}
use Rattle.trace.proofs.writer.write_digits.Goals as goal

pub write_list-requires : goal.write_list-requires
write_list-requires c =
    let a = c.args in (
      omega arith,
      digit_count a.n a.k c.requires.2 c.requires.3,
      list_five c.digits_in_order-e.result (digit_list a.n a.k a.d.now) (a.n * a.k) c.digits_in_order-e.ensures (list-fits c.requires.4 c.requires.1),
    )
