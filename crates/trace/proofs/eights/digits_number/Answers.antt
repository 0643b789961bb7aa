use mathlib.Core.Path.{◌≡◌, ap, ◌∙◌}
use Prim.Native.Nat.{◌+◌, ◌<◌}
use native.Mathlib.Omega.{arith}
use Rattle.integers.specs.Flat.{at}
use Rattle.bitfields.specs.Twos.{encode}
use Rattle.trace.proofs.Digit.{fit-digit-kept}
use Rattle.trace.proofs.Groups.{digits-number_lt, digits-number-next, digits-number-start}
use Rattle.trace.proofs.eights.digits_number.Goals as goal

pub loop-x-init : goal.loop-x-init
loop-x-init c = (omega arith, omega arith, digits-number-start c.args.d.now c.args.at c.args.c)

pub loop-x-preserved : goal.loop-x-preserved
loop-x-preserved c =
    let next-bits : let t = c in
    t.loop-x.x < t.args.c → c.digit_bits.result ≡ encode 5 (at t.args.d.now (t.args.at + t.loop-x.x)) =
    λ l. let t = c in
    let f = t.requires.2.each_fits t.loop-x.x l in
    c.digit_bits.ensures.1 (rw (fit-digit-kept _ f) f) ∙ ap (encode 5) (fit-digit-kept _ f) in
    let t = c in
    let a = t.args in (
      omega arith,
      digits-number_lt t.loop-x.x t.loop-x.invariant.1 c.digit_bits.ensures.0,
      digits-number-next a.d.now a.at a.c t.loop-x.x t.loop-x.v c.digit_bits.result c.digit_bits.ensures.0 next-bits t.loop-x.invariant.2,
    )
