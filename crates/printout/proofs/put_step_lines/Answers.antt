use native.Mathlib.Omega.{arith}
use Rattle.printout.proofs.Lines.{steps-start, step_room, steps_next, steps_all}
use Rattle.printout.proofs.put_step_lines.Goals as goal

pub loop-t-init : goal.loop-t-init
loop-t-init c = (omega arith, steps-start c.args.s)

pub put_step_line-requires : goal.put_step_line-requires
put_step_line-requires c =
    (omega arith, c.requires.0, step_room c.args.s c.loop-t.t c.loop-t.invariant.1 c.requires.0 (omega arith) c.requires.2)

pub loop-t-preserved : goal.loop-t-preserved
loop-t-preserved c = (
  omega arith,
  steps_next c.args.s c.loop-t.t c.loop-t.invariant.1 c.put_step_line.ensures,
)

pub returns : goal.returns
returns c = steps_all c.args.s c.loop-t.t c.loop-t.invariant.1 _ (omega arith)
