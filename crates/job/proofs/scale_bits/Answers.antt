-- From the limits of a scale.
use Rattle.job.proofs.Limits.{scale-bits}
use Rattle.job.proofs.scale_bits.Goals as goal

pub returns : goal.returns
returns c = let p = c.requires in scale-bits _ _ p.1 p.0
