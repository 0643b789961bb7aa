-- The words of the table are computed.
use Rattle.std.proofs.Common.{refl}
use mathlib.Core.List.{flat_map}
use Rattle.case_table.specs.Table.{table}
use Rattle.cases.specs.Words.{table_words, table_lines, lines}
use Rattle.cases.proofs.table.words.Goals as goal

pub returns : goal.returns
unfolding table_lines lines table_words flat_map table
returns c = refl
