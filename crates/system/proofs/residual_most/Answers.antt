-- From the unit inside a state.
use Prim.Native.Nat.{◌^◌, ◌≤◌}
use native.Mathlib.Omega.{arith}
use lib.Pow.{pow_mono}
use Rattle.system.proofs.residual_most.Goals as goal

pub overflow_mul-pow2 : goal.overflow_mul-pow2
overflow_mul-pow2 c =
    let few : c.pow2.result ≤ 2 ^ 44 =
    rw c.pow2.ensures (pow_mono {j = 44} c.inner_bits.ensures.2) in
    omega (arith, few)
