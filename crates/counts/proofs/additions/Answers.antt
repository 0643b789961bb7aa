use mathlib.Core.Path.{sym}
use native.Mathlib.Omega.{arith}
use Rattle.integers.proofs.Sum.{total-zero}
use Rattle.state.specs.State.{digits_of}
use Rattle.counts.proofs.Counting.{product_small, additions-small, additions-next}
use Rattle.counts.proofs.additions.Goals as goal

pub loop-j-init : goal.loop-j-init
loop-j-init c = (omega arith, sym (total-zero _))

pub overflow_add-a : goal.overflow_add-a
overflow_add-a c =
    let l = c.loop-j in
    let d = digits_of c.args.digits.now c.args.k in
    omega
    (arith, product_small c.args.e.now c.args.t.now d c.requires.2 l.j c.loop-j-test.true c.added_after.ensures, l.invariant.1, additions-small c.args.e.now c.args.t.now d c.requires.2 c.requires.1 l.j l.invariant.0)

pub loop-j-preserved : goal.loop-j-preserved
loop-j-preserved c =
    let l = c.loop-j in
    (omega arith, additions-next c.args.e.now c.args.t.now (digits_of c.args.digits.now c.args.k) c.requires.2 l.j l.invariant.1 c.added_after.ensures)
