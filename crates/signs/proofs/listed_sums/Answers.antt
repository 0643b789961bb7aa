use mathlib.Core.Path.{refl, sym, ◌∙◌}
use Rattle.integers.proofs.Sum.{sum-zero}
use Rattle.integers.proofs.Filled.{at-zeros}
use Rattle.signs.proofs.Listing.{may_add, sums_next}
use Rattle.signs.proofs.listed_sums.Goals as goal

pub loop-place-init : goal.loop-place-init
loop-place-init c = (refl, λ i l. at-zeros i ∙ sym (sum-zero _))

pub add_rows-requires : goal.add_rows-requires
add_rows-requires c =
    let l = c.loop-place in
    may_add c.requires l.place-index c.loop-place-test.true l.s l.invariant.1

pub loop-place-preserved : goal.loop-place-preserved
loop-place-preserved c =
    let l = c.loop-place in
    sums_next c.requires l.place-index c.loop-place-test.true l.s l.invariant.1 l.invariant.0 _ c.add_rows.ensures
