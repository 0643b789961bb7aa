-- `bitfields::encode` meets its contract: a negative number is counted back from 2 ^ w.
use mir.Facts.{to_z-of_z}
use Rattle.bitfields.proofs.Twos.{encode_negative, encode_not_negative}
use Rattle.bitfields.proofs.encode.Goals as goal

pub returns-then-z-lt0 : goal.returns-then-z-lt0
returns-then-z-lt0 c =
    let e = to_z-of_z c.ranges.z in
    rw (c.pow2.ensures, c.bits_beside_sign.ensures, e)
    (encode_negative c.args.w c.args.z (rw e at c.if-z-lt0.true))

pub returns-else-z-lt0 : goal.returns-else-z-lt0
returns-else-z-lt0 c =
    let e = to_z-of_z c.ranges.z in
    rw (c.bits_beside_sign-else-z-lt0.ensures, e) (encode_not_negative c.args.w c.args.z (rw e at c.if-z-lt0.false))
