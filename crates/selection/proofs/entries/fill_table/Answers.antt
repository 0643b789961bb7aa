-- The computed test over all entries: the array in the code is the list that the rule gives. `table_rule`
-- (Chosen.antt) is what follows for each entry.
use mathlib.Core.Path.{refl}
use Rattle.integers.specs.Flat.{list_from}
use Rattle.selection.specs.Selection.{selection_table, nearest}
use Rattle.selection.proofs.entries.fill_table.Goals as goal

pub returns : goal.returns
unfolding selection_table nearest list_from
returns c = refl
