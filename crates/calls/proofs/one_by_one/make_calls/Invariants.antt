-- The invariant: what is left to do from here gives what the whole gives from the start. The measure is what
-- is left of the words.
use lib.ListN.{length}
use Rattle.calls.proofs.Parts.{Turn}
use Rattle.calls.proofs.one_by_one.make_calls.Given as goal

abbrev pub invariant-loop-rest : goal.invariant-loop-rest
invariant-loop-rest l = Turn l.initial.t l.words l.initial.list l.list l.t l.additions l.place l.rest

abbrev pub decreases-loop-rest : goal.decreases-loop-rest
decreases-loop-rest l = length l.rest
