-- The table has few rows, by its size.
use Rattle.std.proofs.Common.{arith}
use Rattle.case_table.proofs.Holds.{table-size}
use Rattle.cases.proofs.main.Goals as goal

pub run_all-requires : goal.run_all-requires
run_all-requires c = omega (arith, c.rows-n.ensures, table-size)
