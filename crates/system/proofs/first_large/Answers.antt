use mathlib.Core.Bool.{true}
use native.Mathlib.Omega.{arith}
use mir.Syntax.{w64}
use mir.Val.{to_z, of_z}
use mir.Facts.{to_z-of_z}
use Rattle.system.proofs.Weighing.{above_said}
use Rattle.system.proofs.FirstRow.{search_found, search_over}
use Rattle.system.proofs.first_large.Goals as goal

pub returns-then-above : goal.returns-then-above
returns-then-above c =
    let r = c.loop-i in
    let a = c.above in
    rw (to_z-of_z {w = w64} c.ranges.most) at
    (search_found _ c.args.n r.i r.invariant.1 (omega arith) (above_said (to_z w64 (of_z w64 c.args.most)) c.args.z.now r.i a.result true c.above-arg-1.given a.ensures c.if-above.true))

pub returns : goal.returns
returns c =
    let r = c.loop-i in
    rw (to_z-of_z {w = w64} c.ranges.most) at (search_over _ c.args.n r.i r.invariant.1 (omega arith))
