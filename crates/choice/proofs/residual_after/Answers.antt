-- A digit times the unit is small.
use Rattle.choice.proofs.Residual.{taken-fits, left-fits, left_is}
use Rattle.choice.proofs.residual_after.Goals as goal

pub overflow_mul-result : goal.overflow_mul-result
overflow_mul-result c = taken-fits c.args.w c.args.q c.args.f c.requires.0 c.requires.1 c.requires.2 _ c.unit.ensures

pub overflow_sub-result : goal.overflow_sub-result
overflow_sub-result c = left-fits c.args.w c.args.q c.args.f c.requires.0 c.requires.1 c.requires.2 _ c.unit.ensures

pub returns : goal.returns
returns c = left_is c.args.w c.args.q c.args.f c.requires.0 c.requires.1 c.requires.2 _ c.unit.ensures
