-- Both products are small, and so is their sum.
use Rattle.choice.proofs.ShiftedResidual.{shifted_fits, shifted_is}
use Rattle.choice.proofs.shifted.Goals as goal

pub overflow_add-result : goal.overflow_add-result
overflow_add-result c =
    let a = c.args in
    let p = c.requires in
    shifted_fits a.z a.s a.units.r a.units.q p.0 p.1 p.2 p.3

pub returns : goal.returns
returns c =
    let a = c.args in
    let p = c.requires in
    shifted_is a.z a.s a.units.r a.units.q p.0 p.1 p.2 p.3
