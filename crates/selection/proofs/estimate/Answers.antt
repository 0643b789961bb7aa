-- From five fraction bits on a shift, and with four a product.
use native.Mathlib.Omega.{arith}
use Rattle.selection.proofs.Shift.{double_is, shift_is}
use Rattle.selection.proofs.estimate.Goals as goal

pub returns-then-f-eq4 : goal.returns-then-f-eq4
returns-then-f-eq4 c = double_is c.args.w c.args.f c.requires.2 c.if-f-eq4.true

pub returns-else-f-eq4 : goal.returns-else-f-eq4
returns-else-f-eq4 c = shift_is c.args.w c.args.f c.requires.2 (omega (arith, c.requires.0, c.if-f-eq4.false))
