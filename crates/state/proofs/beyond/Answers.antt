-- A row below n has a mark exactly when one of its digits is above the bound.
use mathlib.Core.Path.{◌∙◌}
use Rattle.state.proofs.Digits.{marks_beyond}
use Rattle.state.proofs.beyond.Goals as goal

pub returns : goal.returns
returns c = c.some_row.ensures ∙ marks_beyond _ _ _ _ _ _ c.requires.0 c.rows_beyond.ensures
