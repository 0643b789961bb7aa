use mathlib.Core.Path.{refl, ◌∙◌}
use Prim.Native.Nat.{◌*◌}
use native.Mathlib.Omega.{arith}
use Rattle.trace.specs.Inner.{DigitsFit}
use Rattle.trace.proofs.Groups.{digits-number-fits}
use Rattle.trace.proofs.Writing.{eights_turn, fits-inside, list-start}
use Rattle.trace.proofs.writer.write_eights.Goals as goal

pub loop-i-init : goal.loop-i-init
loop-i-init c = (omega arith, omega arith, list-start c.args.e.now c.args.out.now, refl)

pub write_field-requires : goal.write_field-requires
write_field-requires c =
    let next_fits : DigitsFit c.args.e.now (8 * c.loop-i.i) 8 =
    fits-inside c.requires.2 (8 * c.loop-i.i) 8 (omega arith) in
    (omega (arith, c.loop-i.invariant.3), omega arith, omega arith, rw c.digits_number.ensures (digits-number-fits next_fits 8 (omega arith)))

pub loop-i-preserved : goal.loop-i-preserved
loop-i-preserved c =
    let l = c.loop-i in
    let a = c.args in (
      omega arith,
      omega arith,
      eights_turn a.e.now a.out.now l.out _ a.g l.i l.q c.digits_number.result c.requires.2 (omega arith) l.invariant.1 l.invariant.2
          c.digits_number.ensures c.write_field.ensures,
      c.write_field.auto.s ∙ l.invariant.3,
    )
