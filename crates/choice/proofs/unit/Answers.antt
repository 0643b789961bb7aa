-- From the power, which is small.
use native.Mathlib.Omega.{arith}
use Rattle.choice.proofs.Residual.{unit-within}
use Rattle.choice.proofs.unit.Goals as goal

pub to_signed-requires : goal.to_signed-requires
to_signed-requires c = omega (arith, c.pow2.ensures, unit-within _ c.requires)
