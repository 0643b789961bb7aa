-- The digit by the table of the estimate, which stands in it.
use Rattle.selection.proofs.Digit.{w_within, e_in_table, select_is}
use Rattle.selection.proofs.Choices.select.Goals as goal

pub estimate-e-requires : goal.estimate-e-requires
estimate-e-requires c = (c.requires.0, c.requires.1, w_within c.args.w c.args.f c.args.p c.requires.1 c.requires.2 c.requires.3)

pub digit_at-requires : goal.digit_at-requires
digit_at-requires c =
    (c.requires.2, e_in_table c.args.w c.args.f c.args.p c.requires.1 c.requires.2 c.requires.3 _ c.estimate-e.ensures)

pub returns : goal.returns
returns c =
    select_is c.args.w c.args.f c.args.p c.requires.1 c.requires.2 c.requires.3 _ c.estimate-e.ensures _ c.digit_at.ensures
