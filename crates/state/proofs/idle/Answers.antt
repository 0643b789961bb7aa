-- The header is that of zeros, and so is every array.
use Rattle.state.specs.State.{idle_state}
use Rattle.state.proofs.idle.Goals as goal

pub returns : goal.returns
unfolding idle_state
returns c = rw c.no_header.ensures
