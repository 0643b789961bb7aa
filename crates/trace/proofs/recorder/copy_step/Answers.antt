use native.Mathlib.Omega.{arith}
use Rattle.trace.proofs.Storing.{copied}
use Rattle.trace.proofs.recorder.copy_step.Goals as goal

pub returns : goal.returns
returns c =
    let a = c.args in
    copied a.to.now a.from.now _ a.at a.i a.n (omega arith) (omega arith) c.copy_from_slice.ensures.after
