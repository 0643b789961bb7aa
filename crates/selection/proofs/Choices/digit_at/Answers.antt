-- The place is one of the table's, and the entry there is held back.
use Rattle.selection.proofs.Digit.{entry-within}
use Rattle.selection.proofs.Choices.digit_at.Goals as goal

pub held_back-requires : goal.held_back-requires
held_back-requires c =
    (c.requires.0, entry-within c.args.e c.requires.1 _ c.to_unsigned-place.ensures c.args.self.now.entries.now c.args.self.now.is_table _ c.from.ensures)
