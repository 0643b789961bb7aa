use mathlib.Core.Path.{sym, ◌∙◌}
use native.Mathlib.Omega.{arith}
use Rattle.integers.specs.Flat.{at}
use Rattle.running_sums.proofs.Columns.{zero-skipped, not_skipped, no_column, column_not_counted, column-counted}
use Rattle.running_sums.proofs.count_columns.Goals as goal
use Rattle.running_sums.proofs.count_columns.Goals.{then-d-j-ne0, else-d-j-ne0}

pub loop-j-init : goal.loop-j-init
loop-j-init c = (omega arith, omega arith, sym (no_column _))

pub loop-j-preserved : goal.loop-j-preserved
loop-j-preserved c =
    let l = c.loop-j in
    let d = at c.args.d.now in
    elim c.if-d-j-ne0.branch [
      | then-d-j-ne0 w ↦ (omega arith, omega arith, w.count-is ∙ rw l.invariant.2 (sym (column-counted d l.j (not_skipped (d l.j) w.if-d-j-ne0.true))))
      | else-d-j-ne0 w ↦ (omega arith, omega arith, w.count-is ∙ l.invariant.2 ∙ sym (column_not_counted d l.j (zero-skipped (d l.j) c.t8-1.given w.if-d-j-ne0.false)))
    ]
