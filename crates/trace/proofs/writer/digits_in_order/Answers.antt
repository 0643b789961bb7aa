use mathlib.Core.Path.{refl}
use Prim.Native.Nat.{◌+◌, ◌*◌, ◌≤◌}
use native.Mathlib.Nat.{mul-suc}
use native.Mathlib.Omega.{arith}
use lib.IntN.{pos}
use lib.ListN.{replicate}
use Rattle.trace.specs.Inner.{digits_from}
use Rattle.trace.proofs.Writing.{in_order-length, in_order-room, in_order-start, in_order_turn}
use Rattle.trace.proofs.writer.digits_in_order.Goals as goal

pub loop-j-init : goal.loop-j-init
loop-j-init c = (omega arith, omega arith, refl, in_order-start c.args.n c.args.d.now (replicate 960 (pos 0)))

pub loop-j-preserved : goal.loop-j-preserved
loop-j-preserved c =
    let room : c.args.n * c.loop-j.j + 16 ≤ 960 =
    in_order-room c.args.n c.loop-j.j c.requires.1 (omega arith) in
    let l = c.loop-j in
    let a = c.args in (
      omega arith,
      omega (arith, mul-suc a.n l.j, l.invariant.1),
      in_order-length l.e _ l.to (digits_from a.d.now (16 * l.j) 16) c.copy_step.ensures l.invariant.2,
      in_order_turn a.d.now l.e _ a.n l.j l.to c.requires.0 c.requires.1 (omega (arith, room, l.invariant.2)) l.invariant.1 l.invariant.3 c.copy_step.ensures,
    )
