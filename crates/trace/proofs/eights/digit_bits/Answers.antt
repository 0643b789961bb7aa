-- `trace::digit_bits` meets its contract. Assumes nothing.
use mathlib.Core.Path.{◌∙◌}
use Rattle.trace.proofs.Digit.{digit_bits_are}
use Rattle.integers.proofs.Machine.{i8_kept}
use Rattle.trace.proofs.eights.digit_bits.Goals as goal

pub returns : goal.returns
returns c =
    digit_bits_are c.args.z c.from.result c.ranges.z.sfits (c.from.ensures ∙ i8_kept _ c.ranges.z.sfits) c.to_unsigned.result c.to_unsigned.ensures
