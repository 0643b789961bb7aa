-- From 0 where the column has no entry, else from its products.
use mir.Facts.{to_z-of_z}
use mir.Syntax.{w64}
use Rattle.spans.proofs.ColumnSum.{begun_products, begun_none}
use Rattle.spans.proofs.begin_sums.Goals as goal

pub returns : goal.returns
returns c =
    begun_products c.args.s.now c.requires.0 c.told-s (rw (to_z-of_z {w = w64} c.ranges.d) at c.first_products.ensures)

pub returns-then-span : goal.returns-then-span
returns-then-span c = begun_none c.args.d c.requires.0 c.requires.2 c.if-span.true
