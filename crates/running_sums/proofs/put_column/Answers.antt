use mathlib.Core.Path.{◌∙◌}
use Prim.Native.Nat.{◌+◌}
use native.Mathlib.Numerals.{add-one}
use native.Mathlib.Omega.{arith}
use lib.ListN.{length-set}
use mir.Syntax.{w64}
use mir.Val.{to_z, of_z}
use Rattle.integers.specs.Flat.{at}
use Rattle.integers.proofs.Machine.{i64_kept}
use Rattle.running_sums.proofs.Stored.{fewer_left, none_left}
use Rattle.running_sums.proofs.put_column.Goals as goal

pub loop-i-preserved : goal.loop-i-preserved
loop-i-preserved c =
    let l = c.loop-i in
    let a = c.args in (
      omega arith,
      length-set l.out (a.to + 1 + l.i) (to_z w64 (of_z w64 (at a.s.now l.i))) ∙ l.invariant.1,
      fewer_left (at a.s.now) a.n (a.to + 1) _ l.out l.i _ c.loop-i-test.true (i64_kept _ c.out-1.given) l.invariant.2,
    )

pub returns : goal.returns
returns c =
    let l = c.loop-i in
    let a = c.args in
    let e = none_left (at a.s.now) a.n (a.to + 1) _ l.out l.i c.loop-i-test.false l.invariant.2 in
    rw (i64_kept _ c.to_signed.type_inv ∙ c.to_signed.ensures, add-one a.to) at e
