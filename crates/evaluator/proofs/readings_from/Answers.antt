use native.Mathlib.Omega.{arith}
use Rattle.evaluator.proofs.Horner.{readings-zero, radix-fits, reading-product-fits, reading-sum-fits, reading-next}
use Rattle.evaluator.proofs.Arrays.{turned_at, turned_next, turned_all}
use Rattle.evaluator.proofs.readings_from.Goals as goal

pub loop-j-init : goal.loop-j-init
loop-j-init g c = (omega arith, readings-zero _ _ _ _)

pub overflow_cast-y : goal.overflow_cast-y
overflow_cast-y g c = radix-fits (c.requires c.loop-t.t c.loop-t-test.true)

pub overflow_mul-y : goal.overflow_mul-y
overflow_mul-y g c =
    let l = c.loop-t in
    let t = c.loop-t-test.true in
    reading-product-fits (c.requires l.t t) c.loop-j.j c.loop-j-test.true (turned_at _ _ _ _ l.y l.t l.invariant.1 t)

pub overflow_add-y : goal.overflow_add-y
overflow_add-y g c =
    let l = c.loop-t in
    let t = c.loop-t-test.true in
    reading-sum-fits (c.requires l.t t) c.loop-j.j c.loop-j-test.true (turned_at _ _ _ _ l.y l.t l.invariant.1 t) _ c.from.ensures

pub loop-t-preserved : goal.loop-t-preserved
loop-t-preserved g c =
    let l = c.loop-t in
    let t = c.loop-t-test.true in (
      omega arith,
      turned_next _ _ _ _ l.y l.t l.invariant.1 _ t
          (reading-next (c.requires l.t t) c.loop-j.j c.loop-j-test.true (turned_at _ _ _ _ l.y l.t l.invariant.1 t) _ c.from.ensures),
    )

pub loop-j-preserved : goal.loop-j-preserved
loop-j-preserved g c = (omega arith, turned_all _ _ _ _ c.loop-t.y c.loop-t.t c.loop-t.invariant.1 (omega arith))
