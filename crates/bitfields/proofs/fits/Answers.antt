-- `bitfields::fits` meets its contract.
use mir.Facts.{to_z-of_z}
use Rattle.bitfields.specs.Twos.{fitsb}
use Rattle.bitfields.proofs.fits.Goals as goal

pub returns : goal.returns
unfolding fitsb
returns c = rw (c.pow2.ensures, c.bits_beside_sign.ensures, to_z-of_z c.ranges.z)
