use mathlib.Core.Path.{◌∙◌}
use native.Mathlib.Omega.{arith}
use Rattle.system.specs.System.{system_entry}
use Rattle.system.proofs.Setup.{rows_none, rows_placed}
use Rattle.system.proofs.place_rows.Goals as goal

pub loop-i-init : goal.loop-i-init
loop-i-init c = (omega arith, c.requires.3 ∙ rows_none c.args.n c.requires.0 (system_entry c.args.u c.args.n c.args.v.now))

pub loop-i-preserved : goal.loop-i-preserved
loop-i-preserved c =
    let l = c.loop-i in
    (omega arith, rows_placed c.args.n c.requires.0 (system_entry c.args.u c.args.n c.args.v.now) l.i c.loop-i-test.true l.g _ l.invariant.1 c.place_row.ensures)
