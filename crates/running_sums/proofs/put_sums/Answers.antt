use native.Mathlib.Omega.{arith}
use lib.IntN.{ℤ}
use Rattle.integers.specs.Flat.{at}
use Rattle.running_sums.proofs.Columns.{zero-skipped, not_skipped}
use Rattle.running_sums.proofs.Put.{none-put, words_few, column-skipped, may_add, may-put-column, column-put}
use Rattle.running_sums.proofs.put_sums.Goals as goal
use Rattle.running_sums.proofs.put_sums.Goals.{then-digit-ne0, else-digit-ne0}

pub loop-j-init : goal.loop-j-init
loop-j-init c = (omega arith, none-put)

pub add_column-requires : goal.add_column-requires
add_column-requires c =
    may_add c.loop-j.invariant.1 c.requires c.loop-j-test.true _ c.from.ensures

pub put_column-requires : goal.put_column-requires
put_column-requires c =
    let digit : ℤ =
    at c.args.d.now c.loop-j.j in
    may-put-column c.loop-j.invariant.1 c.requires c.loop-j-test.true _ c.from.ensures (not_skipped digit c.if-digit-ne0.true)

pub overflow_add-to-then-digit-ne0 : goal.overflow_add-to-then-digit-ne0
overflow_add-to-then-digit-ne0 c =
    let p = c.requires.order in
    omega (arith, words_few c.loop-j.invariant.1 p c.loop-j-test.true, p)

pub loop-j-preserved : goal.loop-j-preserved
loop-j-preserved c =
    let digit : ℤ =
    at c.args.d.now c.loop-j.j in
    let l = c.loop-j in
    elim c.if-digit-ne0.branch [
      | then-digit-ne0 w ↦ (
        omega (arith, c.loop-j-test.true),
        rw (w.out-is, w.s-is, w.to-is)
            (column-put l.invariant.1 c.requires c.loop-j-test.true _ w.from.ensures (not_skipped digit w.if-digit-ne0.true) w.add_column.ensures w.put_column.ensures),
      )
      | else-digit-ne0 w ↦ (
        omega (arith, c.loop-j-test.true),
        rw (w.out-is, w.s-is, w.to-is)
            (column-skipped l.invariant.1 (zero-skipped digit c.digit-1.given w.if-digit-ne0.false)),
      )
    ]
