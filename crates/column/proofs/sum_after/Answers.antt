-- The digit 0 adds nothing; else the product is small, and so is the sum.
use Rattle.column.proofs.Added.{sum_is}
use Rattle.column.proofs.sum_after.Goals as goal

pub returns-else-d-eq0 : goal.returns-else-d-eq0
returns-else-d-eq0 c = let a = c.args in let p = c.requires in sum_is a.s a.e a.d p.0 p.1 p.2
