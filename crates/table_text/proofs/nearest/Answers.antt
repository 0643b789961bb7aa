-- Half a unit with e's sign is added, and the quotient, cut toward zero, is the nearest whole number.
use mir.Syntax.{w64}
use mir.Val.{to_z}
use Rattle.table_text.proofs.Entries.{Half, negative_half, positive_half, quotient_is}
use Rattle.table_text.proofs.nearest.Goals as goal
use Rattle.table_text.proofs.nearest.Goals.{then-e-lt0, else-e-lt0}

pub returns : goal.returns
returns c =
    let e = c.args.e in
    let h = c.if-e-lt0.half-bits in
    let half : Half e (to_z w64 h) =
    elim c.if-e-lt0.branch [
      | then-e-lt0 w ↦ negative_half e c.requires h w.if-e-lt0.true w.half-is
      | else-e-lt0 w ↦ positive_half e c.requires h w.if-e-lt0.false w.half-is
    ] in
    quotient_is e c.requires _ half
