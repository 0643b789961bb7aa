use native.Mathlib.Omega.{arith}
use Rattle.spans.proofs.ColumnSpan.{found_none}
use Rattle.signs.proofs.Table.{tabulated_none}
use Rattle.signs.proofs.columns.Goals as goal

pub loop-j-init : goal.loop-j-init
loop-j-init c = (omega arith, tabulated_none _ _, found_none _ _ _ c.told-entries)
