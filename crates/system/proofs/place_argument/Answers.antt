use mathlib.Core.Path.{refl, sym}
use native.Mathlib.Omega.{arith}
use mir.Syntax.{w64}
use mir.Val.{to_z, of_z}
use Rattle.integers.proofs.Stores.{stores-zero}
use Rattle.system.proofs.Arrays.{stores_next}
use Rattle.system.proofs.Setup.{argument_place}
use Rattle.system.proofs.place_argument.Goals as goal

pub loop-i-init : goal.loop-i-init
loop-i-init c = (omega arith, sym (stores-zero _ _ _))

pub loop-i-preserved : goal.loop-i-preserved
loop-i-preserved c =
    let l = c.loop-i in
    (omega arith, stores_next _ argument_place (λ t. to_z w64 (of_z w64 c.args.x)) l.i _ l.g _ l.auto.i (omega arith) l.invariant.1 refl)
