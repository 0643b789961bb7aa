use mathlib.Core.Path.{sym}
use native.Mathlib.Omega.{arith}
use Rattle.scale.proofs.LeadingZeros.{peak-zero, peak_raised, peak-kept}
use Rattle.scale.proofs.largest.Goals as goal
use Rattle.scale.proofs.largest.Goals.{then-top-a, else-top-a}

pub loop-i-init : goal.loop-i-init
loop-i-init c = (omega arith, sym (peak-zero _))

pub loop-i-preserved : goal.loop-i-preserved
loop-i-preserved c =
    let l = c.loop-i in
    let z = c.args.z.now in
    let g = c.unsigned_abs-arg-1.given in
    let a = c.unsigned_abs-a in (
      omega arith,
      elim c.if-top-a.branch [
        | then-top-a w ↦ peak_raised l.i z l.top a.result l.invariant.1 g a.ensures.value c.if-top-a.top w.if-top-a.true w.top-is
        | else-top-a w ↦ peak-kept l.i z l.top a.result l.invariant.1 g a.ensures.value c.if-top-a.top w.if-top-a.false w.top-is
      ],
    )
