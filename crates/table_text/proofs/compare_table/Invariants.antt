-- The loop's invariant: the first k entries agree, with their lines from the front of s to the place reached.
use Rattle.table_text.proofs.Comparing.{Agreed}
use Rattle.table_text.proofs.compare_table.Given as goal

abbrev pub invariant-loop-k : goal.invariant-loop-k
invariant-loop-k l = Agreed l.s l.k l.at
