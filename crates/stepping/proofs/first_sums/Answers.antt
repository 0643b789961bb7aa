use mathlib.Core.Path.{◌≡◌, refl}
use native.Mathlib.Omega.{arith}
use lib.IntN.{pos}
use lib.ListN.{replicate}
use Rattle.stepping.proofs.Stepped.{zeros-filled}
use Rattle.spans.proofs.ColumnSpan.{from_first, to_last}
use Rattle.spans.proofs.ColumnSum.{sums_none, may-add-next, sums-more, sums_done}
use Rattle.stepping.proofs.first_sums.Goals as goal

pub returns-then-k-eq0 : goal.returns-then-k-eq0
returns-then-k-eq0 c =
    zeros-filled c.args.n c.args.g.now c.requires.0 (c.requires.2 (omega arith))

pub loop-j-init : goal.loop-j-init
loop-j-init c = (omega arith, sums_none _ _ _)

pub add_column-requires : goal.add_column-requires
add_column-requires c =
    let l = c.loop-j in
    may-add-next c.requires.0 c.requires.1 c.loop-j-test.true l.invariant.1 _ c.from.ensures (to_last c.args.n c.args.g.now l.j)

pub loop-j-preserved : goal.loop-j-preserved
loop-j-preserved c =
    let l = c.loop-j in
    (omega arith, sums-more c.requires.0 c.requires.1 c.loop-j-test.true l.invariant.1 _ c.from.ensures (from_first c.args.n c.args.g.now l.j c.loop-j-test.true) (to_last c.args.n c.args.g.now l.j) c.add_column.ensures)

pub returns : goal.returns
returns c =
    let l = c.loop-j in
    let e : l.j ≡ c.args.n = omega (arith, l.invariant.0, c.loop-j-test.false) in
    sums_done c.requires.0 c.requires.1 (replicate 16 (pos 0)) refl (λ i m. refl) (rw e at l.invariant.1)
