-- The greater of -p and the entry, and of that and p the lesser.
use Rattle.selection.proofs.Held.{held_back_is}
use Rattle.selection.proofs.held_back.Goals as goal

pub returns : goal.returns
returns c =
    held_back_is c.args.p c.requires.0 c.args.entry _ _ c.requires.1 c.greater-raised.ensures c.lesser.ensures
