-- The residuals inside a state have 4 to 44 fraction bits.
use Rattle.stepping.proofs.plan.Plan.new.Goals as goal

pub invariant_of-units : goal.invariant_of-units
invariant_of-units c = let f = c.inner_bits-f.ensures in record { in_range = (f.1, f.2) }
