-- A state that passes its limits has small entries.
use Rattle.stepping.proofs.Kept as kept
use Rattle.stepping.proofs.Limits.{may_tabulate}
use Rattle.stepping.proofs.run_by_signs.Goals as goal

pub columns-columns-requires : goal.columns-columns-requires
columns-columns-requires c =
    let b = c.requires.0.passes in
    (b.limits.order_most, may_tabulate (kept.keeps_limits _ b))
