-- Each field is below 2 to its width, so nothing overflows, and the sum is the number of the fields.
use native.Mathlib.Omega.{arith}
use Rattle.bitfields.specs.Layout.{bits, number}
use Rattle.header.proofs.header_number.Goals as goal

pub returns : goal.returns
unfolding number bits
returns c = omega arith
