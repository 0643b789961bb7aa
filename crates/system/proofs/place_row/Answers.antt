use mathlib.Core.Path.{sym}
use Prim.Native.Nat.{◌+◌, ◌*◌}
use native.Mathlib.Omega.{arith}
use Rattle.integers.proofs.Stores.{stores-zero}
use Rattle.system.proofs.Numbers.{entry_read}
use Rattle.system.proofs.Arrays.{stores-more}
use Rattle.system.proofs.place_row.Goals as goal

pub loop-j-init : goal.loop-j-init
loop-j-init c = (omega arith, sym (stores-zero _ _ _))

pub loop-j-preserved : goal.loop-j-preserved
loop-j-preserved c =
    let l = c.loop-j in (
      omega arith,
      stores-more _ (λ j. 16 * c.args.i + j) _ l.j l.g _ l.invariant.1
          (entry_read c.args.u c.args.n c.args.v.now c.args.i l.j _ c.requires.3 c.requires.0 c.loop-j-test.true c.system_entry.type_inv c.system_entry.ensures),
    )
