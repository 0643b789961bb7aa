use mathlib.Core.Path.{◌≡◌, refl, ap, ◌∙◌}
use Prim.Native.Nat.{min}
use native.Mathlib.Omega.{arith}
use lib.ListN.{length, length-set}
use Rattle.integers.specs.Flat.{list_from}
use Rattle.integers.proofs.Machine.{i64_kept}
use Rattle.emethod_c.proofs.Words.{digit-put, digit-none}
use Rattle.emethod_c.proofs.put_step_words.Goals as goal
use Rattle.emethod_c.proofs.put_step_words.Goals.{then-x-n, else-x-n}

pub loop-x-init : goal.loop-x-init
unfolding list_from
loop-x-init c =
    let e : min 0 c.args.n ≡ 0 = omega arith in
    (omega arith, refl, rw e)

pub loop-x-preserved : goal.loop-x-preserved
loop-x-preserved c =
    let l = c.loop-x in
    let a = c.args in
    elim c.if-x-n.branch [
      | then-x-n w ↦ (
        omega arith,
        ap length w.words-is ∙ simp length-set l.invariant.1,
        digit-put a.d.now a.words.now l.words c.if-x-n.words a.from a.to l.x a.n _ w.if-x-n.true l.invariant.2 w.words-is
            (i64_kept w.from.result w.from.type_inv ∙ w.from.ensures) w.from-arg-1.given,
      )
      | else-x-n w ↦ (
        omega arith,
        ap length w.words-is ∙ l.invariant.1,
        digit-none a.d.now a.words.now l.words c.if-x-n.words a.from a.to l.x a.n w.if-x-n.false l.invariant.2 w.words-is,
      )
    ]
