-- The table's length is computed.
use Rattle.std.proofs.Common.{refl}
use Rattle.case_table.specs.Table.{table}
use Rattle.cases.proofs.table.rows.Goals as goal

pub returns : goal.returns
unfolding table
returns c = refl
