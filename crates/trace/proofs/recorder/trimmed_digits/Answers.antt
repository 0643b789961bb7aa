use native.Mathlib.Omega.{arith}
use Rattle.trace.proofs.Digits.{digit_array-none}
use Rattle.trace.proofs.Steps.{trimmed_turn}
use Rattle.trace.proofs.recorder.trimmed_digits.Goals as goal

pub loop-j-init : goal.loop-j-init
loop-j-init c = (omega arith, digit_array-none _ _)

pub loop-j-preserved : goal.loop-j-preserved
loop-j-preserved c =
    let l = c.loop-j in
    let a = c.args in
    (omega arith, trimmed_turn a.d.now l.t _ a.n a.k l.j c.requires.0 c.requires.1 (omega arith) l.invariant.1 c.copy_step.ensures)
