use mathlib.Core.Path.{◌≡◌, sym}
use Prim.Native.Nat.{◌+◌, ◌-◌, ◌^◌}
use native.Mathlib.Omega.{arith}
use Rattle.integers.specs.Sum.{Within}
use Rattle.integers.proofs.Stores.{stores-zero}
use Rattle.system.specs.System.{denominator}
use Rattle.system.proofs.Numbers.{negated_is}
use Rattle.system.proofs.Arrays.{stores_next}
use Rattle.system.proofs.Setup.{denominator_place}
use Rattle.system.proofs.place_denominator.Goals as goal

pub loop-i-init : goal.loop-i-init
loop-i-init c = (omega arith, sym (stores-zero _ _ _))

pub loop-i-preserved : goal.loop-i-preserved
loop-i-preserved c =
    let l = c.loop-i in
    let row : l.i - 1 + 1 ≡ l.i = omega arith in
    let coefficient : Within (denominator c.args.n c.args.v.now l.i) (2 ^ 41) =
    c.requires.1.small (c.args.n + l.i) (omega arith) in
    (omega arith, stores_next _ denominator_place _ l.i _ l.g _ l.auto.i (omega arith) l.invariant.1 (rw row (negated_is coefficient)))
