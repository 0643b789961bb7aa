use Prim.Native.Nat.{◌+◌, ◌*◌, ◌≤◌}
use native.Mathlib.Omega.{arith}
use Rattle.trace.proofs.Digits.{digit_array-none}
use Rattle.trace.proofs.Steps.{place_next, place_room, digit_count, digits_read_turn, step_clear}
use Rattle.trace.proofs.reader.read_digits.Goals as goal

pub loop-j-init : goal.loop-j-init
loop-j-init c = (omega arith, omega arith, digit_array-none _ _)

pub read_step-requires : goal.read_step-requires
read_step-requires c =
    let room : 5 * (c.args.n * c.loop-j.j) + 5 * c.args.n ≤ 5 * (c.args.n * c.args.k) =
    place_room c.args.n c.args.k c.loop-j.j (omega arith) in
    let small : c.args.n * c.loop-j.j ≤ 960 =
    digit_count c.args.n c.loop-j.j c.requires.2 (omega arith) in
    let l = c.loop-j in
    (omega (arith, room), omega arith, omega arith, omega arith, omega (arith, small), step_clear l.d _ c.args.n l.j (omega arith) l.invariant.2)

pub loop-j-preserved : goal.loop-j-preserved
loop-j-preserved c =
    let l = c.loop-j in
    let a = c.args in (
      omega arith,
      place_next 6 a.n l.j l.p l.invariant.1,
      digits_read_turn a.b.now l.d _ a.n a.k l.j l.p c.requires.2 c.requires.3 (omega arith) l.invariant.1 l.invariant.2 c.read_step.ensures,
    )
