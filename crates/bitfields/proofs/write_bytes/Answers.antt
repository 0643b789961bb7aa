use mathlib.Core.Path.{◌≡◌, refl, ◌∙◌}
use Prim.Native.Nat.{◌+◌}
use native.Mathlib.Omega.{arith}
use lib.ListN.{length-set}
use Rattle.bitfields.proofs.Steps.{paste_octets, write-bytes_turn}
use Rattle.bitfields.proofs.write_bytes.Goals as goal

pub loop-j-preserved : goal.loop-j-preserved
loop-j-preserved c =
    let l = c.loop-j in
    let a = c.args in (
      omega arith,
      write-bytes_turn a.s.now l.s a.at a.n a.x l.j _ (omega arith) (omega arith) l.invariant.1 refl,
      length-set l.s (a.at + l.j) _ ∙ l.invariant.2,
    )

pub returns : goal.returns
returns c =
    let a = c.args in
    let e : c.loop-j.j ≡ a.n = omega arith in
    (rw e at c.loop-j.invariant.1) ∙ paste_octets a.s.now a.at a.n a.x
