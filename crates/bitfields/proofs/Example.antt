-- A worked example, computed: the fields 01, 000100 and the numbers 7 and -3 in 5 bits each are 18 bits, 0100
-- 0100 0011 1111 01, in 3 bytes, with six zeros at the end.
use mathlib.Core.Path.{◌≡◌, refl}
use mathlib.Core.List.{[], ◌∷◌, map}
use lib.IntN.{pos, negsuc}
use Rattle.bitfields.specs.Layout.{bits, number, each, octets, field, values_from, pack, write, put}
use Rattle.bitfields.specs.Twos.{encode, decode, numbers}

pub example_write : write ((2, 1) ∷ (6, 4) ∷ each 5 (map (encode 5) (pos 7 ∷ negsuc 2 ∷ []))) ≡ 0x44 ∷ 0x3f ∷ 0x40 ∷ []
unfolding bits number octets pack encode
example_write = refl

pub example_field : field (0x44 ∷ 0x3f ∷ 0x40 ∷ []) 2 6 ≡ 4
unfolding bits number field
example_field = refl

pub example_numbers : numbers (0x44 ∷ 0x3f ∷ 0x40 ∷ []) 8 5 2 ≡ pos 7 ∷ negsuc 2 ∷ []
unfolding bits number field values_from decode
example_numbers = refl

-- 01 after the first three bits of 1111 1111 is 1110 1000: three bits and the byte past them are kept
pub example_put : put (0xff ∷ 0xff ∷ []) 3 ((2, 1) ∷ []) ≡ 0xe8 ∷ 0xff ∷ []
unfolding bits number octets field pack put
example_put = refl
