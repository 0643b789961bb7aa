-- The loop's invariant: the lines of the first k entries are put.
use Prim.Native.Nat.{◌≤◌}
use Rattle.selection.specs.Selection.{estimate_count}
use Rattle.text.specs.Text.{Written}
use Rattle.table_text.proofs.Lines.{first_lines}
use Rattle.table_text.proofs.put_table.Given as goal

abbrev pub invariant-loop-k : goal.invariant-loop-k
invariant-loop-k l = (l.k ≤ estimate_count) × Written l.initial.page (first_lines l.k) l.page
