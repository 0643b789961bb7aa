use mathlib.Core.Path.{◌∙◌}
use native.Mathlib.Omega.{arith}
use mir.Syntax.{w64}
use mir.Facts.{to_z-of_z}
use Rattle.system.proofs.Weighing.{room-start, room_next, room_over}
use Rattle.system.proofs.FirstRow.{search_found, search_over}
use Rattle.system.proofs.first_heavy.Goals as goal

pub loop-j-init : goal.loop-j-init
loop-j-init c = (omega arith, c.rows.invariant.1, room-start _ _ (rw (to_z-of_z {w = w64} c.ranges.limit) c.requires.1))

pub loop-j-preserved : goal.loop-j-preserved
loop-j-preserved c =
    let l = c.loop-j in
    (omega arith, l.invariant.1, room_next _ _ c.room_after-room.result _ l.j l.invariant.2 c.room_after-arg-1.given c.room_after-room.type_inv c.room_after-room.ensures c.if-room-lt0.false)

pub returns-after-rows : goal.returns-after-rows
returns-after-rows c =
    let r = c.rows in
    r.invariant.1 ∙ (rw (to_z-of_z {w = w64} c.ranges.limit) at (search_over _ c.args.n r.i r.invariant.2 (omega arith)))

pub returns-then-room-lt0 : goal.returns-then-room-lt0
returns-then-room-lt0 c =
    let l = c.loop-j in
    let r = c.rows in
    rw (to_z-of_z {w = w64} c.ranges.limit) at
    (search_found _ c.args.n r.i r.invariant.2 (omega arith)
    (room_over _ _ c.room_after-room.result _ l.j l.invariant.2 c.room_after-arg-1.given c.room_after-room.type_inv c.room_after-room.ensures c.args.n (omega arith) c.if-room-lt0.true))
