-- A power of a power of 2.
use mathlib.Core.Path.{◌∙◌}
use Rattle.job.proofs.Limits.{factor_is}
use Rattle.job.proofs.sum_factor.Goals as goal

pub returns : goal.returns
returns c = c.pow2.ensures ∙ factor_is _ _
