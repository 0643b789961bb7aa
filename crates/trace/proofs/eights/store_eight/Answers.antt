use mathlib.Core.Path.{refl, ap, ◌∙◌}
use native.Mathlib.Omega.{arith}
use Rattle.integers.specs.Flat.{list_from}
use Rattle.bitfields.specs.Twos.{decode}
use Rattle.trace.specs.Inner.{digit_in}
use Rattle.trace.proofs.Bytes.{byte-field}
use Rattle.integers.proofs.Machine.{i8_kept}
use Rattle.trace.proofs.Storing.{store_turn}
use Rattle.trace.proofs.eights.store_eight.Goals as goal

pub loop-x-init : goal.loop-x-init
unfolding list_from
loop-x-init c = (omega arith, refl)

pub loop-x-preserved : goal.loop-x-preserved
loop-x-preserved c =
    let l = c.loop-x in
    let a = c.args in (
      omega arith,
      rw (i8_kept c.digit_of_byte.result c.digit_of_byte.type_inv) (store_turn a.d.now l.d a.at l.x (digit_in 8 a.u) c.digit_of_byte.result l.invariant.1
          (c.digit_of_byte.ensures ∙ ap (decode 5) (byte-field c.eight_bytes-y.ensures l.x (omega arith)))),
    )
