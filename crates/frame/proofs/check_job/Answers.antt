-- What is found of the arrays is what the system has.
use Rattle.frame.proofs.Verdicts.{system_decides}
use Rattle.scale.proofs.Smallest.{sides_small}
use Rattle.frame.proofs.check_job.Goals as goal

pub scale-requires : goal.scale-requires
scale-requires c =
    let p = c.requires in
    (p.0, rw c.right_sides-z.ensures (sides_small p.0 p.1))

pub returns : goal.returns
returns c =
    system_decides c.args.h c.args.v.now c.requires.0.order_most c.place_matrix.ensures c.right_sides-z.ensures c.scale.ensures c.check_system.ensures
