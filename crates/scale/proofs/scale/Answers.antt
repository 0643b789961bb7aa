-- The largest |B|, its exponent, and the two tests.
use Rattle.scale.proofs.LeadingZeros.{peak_le, scale_0, scale_1, scale_2}
use Rattle.scale.proofs.scale.Goals as goal

pub exponent-e-requires : goal.exponent-e-requires
exponent-e-requires c = rw c.largest.ensures (peak_le _ _ _ c.requires.1.rows)

pub returns-then-e-h : goal.returns-then-e-h
returns-then-e-h c = scale_0 _ _ _ _ c.requires.0 c.largest.ensures c.exponent-e.ensures c.if-e-h.true

pub returns-then-e-h-2 : goal.returns-then-e-h-2
returns-then-e-h-2 c = scale_1 _ _ _ _ c.requires.0 c.largest.ensures c.exponent-e.ensures c.if-e-h.false c.if-e-h-2.true

pub returns : goal.returns
returns c = scale_2 _ _ _ _ c.requires.0 c.largest.ensures c.exponent-e.ensures c.if-e-h.false c.if-e-h-2.false
