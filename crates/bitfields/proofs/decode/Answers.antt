-- `bitfields::decode` meets its contract: x plus half of 2 ^ w, modulo 2 ^ w, less the half.
use Rattle.bitfields.proofs.Twos.{difference_read}
use Rattle.bitfields.proofs.decode.Goals as goal

pub returns : goal.returns
returns c =
    difference_read c.args.w c.args.x c.requires.0 c.requires.1 c.requires.2 c.to_signed.result c.to_signed-2.result
    (rw (c.pow2-half.ensures, c.pow2.ensures) at c.to_signed.ensures)
    (rw c.pow2-half.ensures at c.to_signed-2.ensures)
