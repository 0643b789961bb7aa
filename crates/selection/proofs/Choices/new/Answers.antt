-- The computed test over all entries, as of `fill_table`.
use mathlib.Core.Path.{refl}
use Rattle.integers.specs.Flat.{list_from}
use Rattle.selection.specs.Selection.{selection_table, nearest}
use Rattle.selection.proofs.Choices.new.Goals as goal

pub invariant_of-result : goal.invariant_of-result
unfolding selection_table nearest list_from
invariant_of-result c = record { is_table = refl }
