-- The search, with the largest light weight as its limit.
use mathlib.Core.Path.{◌≡◌, ap, ◌∙◌}
use lib.IntN.{pos}
use mir.Syntax.{w64}
use mir.Val.{to_z, of_z}
use mir.Facts.{to_z-of_z}
use Rattle.system.specs.Inner.{largest_light}
use Rattle.system.specs.Rows.{row_given}
use Rattle.system.proofs.Searches.{heavy_found}
use Rattle.system.proofs.heavy_row.Goals as goal

pub returns : goal.returns
returns c =
    let bound-is : to_z w64 (of_z w64 c.largest_light.result) ≡ pos (largest_light c.args.h) =
    to_z-of_z {w = w64} (record { sfits = c.largest_light.type_inv }) ∙ c.largest_light.ensures in
    c.first_heavy.ensures ∙ ap row_given (heavy_found c.args.h c.args.g.now c.requires _ bound-is)
