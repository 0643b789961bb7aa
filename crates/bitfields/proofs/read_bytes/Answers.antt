use mathlib.Core.Path.{refl}
use Prim.Native.Nat.{◌+◌}
use native.Mathlib.Omega.{arith}
use Rattle.bitfields.specs.Layout.{number}
use Rattle.bitfields.proofs.Steps.{read_fits, read_bytes_turn, read_bytes_turn_lt}
use Rattle.bitfields.proofs.read_bytes.Goals as goal

pub loop-j-init : goal.loop-j-init
unfolding number
loop-j-init c = (omega arith, refl, omega arith)

pub overflow_mul-x : goal.overflow_mul-x
overflow_mul-x c = omega (arith, read_fits c.loop-j.j c.loop-j.invariant.2 (omega arith))

pub overflow_add-x : goal.overflow_add-x
overflow_add-x c =
    omega (arith, read_fits c.loop-j.j c.loop-j.invariant.2 (omega arith), c.shared_slice_known-in-loop-j-1.given (c.args.at + c.loop-j.j))

pub loop-j-preserved : goal.loop-j-preserved
loop-j-preserved c =
    let a = c.args in (
      omega arith,
      rw c.from.ensures (read_bytes_turn a.s.now a.at c.loop-j.j c.loop-j.x (omega arith) c.loop-j.invariant.1),
      rw c.from.ensures (read_bytes_turn_lt c.loop-j.j c.loop-j.invariant.2 (omega (arith, c.shared_slice_known-in-loop-j-1.given (a.at + c.loop-j.j)))),
    )
