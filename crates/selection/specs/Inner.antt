-- What the contracts of inner functions cite; a reader of the promises can skip it. The lesser and the
-- greater of two numbers, by which an entry is held back.
use Rattle.std.specs.Prelude.{cond}
use lib.{IntN.ℤ, Signed.lt_z}

abbrev pub lesser : ℤ → ℤ → ℤ
lesser a b = cond (lt_z b a) b a

abbrev pub greater : ℤ → ℤ → ℤ
greater a b = cond (lt_z a b) b a
