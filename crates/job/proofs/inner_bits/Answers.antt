-- The fraction bits of the frame's numbers, and those of r^s.
use Rattle.job.proofs.Limits.{inner_bits}
use Rattle.job.proofs.inner_bits.Goals as goal

pub returns : goal.returns
returns c = let p = c.requires in let b = c.scale_bits in inner_bits _ _ p.1 p.0 _ b.ensures.0 b.ensures.1
