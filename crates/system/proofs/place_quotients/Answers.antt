use mathlib.Core.Path.{◌∙◌}
use Prim.Native.Nat.{◌*◌, ◌-◌}
use native.Mathlib.Omega.{arith}
use Rattle.system.proofs.Numbers.{number_is}
use Rattle.system.proofs.Quotients.{quotients-none, quotients-more}
use Rattle.system.proofs.place_quotients.Goals as goal

pub loop-i-init : goal.loop-i-init
loop-i-init c = (omega arith, c.requires.0, c.requires.3 ∙ quotients-none _ _)

pub loop-i-preserved : goal.loop-i-preserved
loop-i-preserved c =
    let l = c.loop-i in (
      omega arith,
      omega arith,
      quotients-more _ _ l.i l.g _ _ l.invariant.0 (omega arith) l.invariant.2 (number_is (c.requires.2.small (3 * l.i - 2) (omega arith)))
          (number_is (c.requires.2.small (3 * l.i) (omega arith))),
    )
