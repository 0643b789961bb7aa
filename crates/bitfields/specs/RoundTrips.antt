-- The round trips, for every list of widths and so for every format, and for every number.
-- `proofs/RoundTrip.antt`, `proofs/Writing.antt` and `proofs/Twos.antt` have a proof of each.
use mathlib.Core.{Path.◌≡◌, List.List}
use Rattle.std.specs.Prelude.{ℕ, ◌^◌, ◌<◌, ℤ}
use Rattle.bitfields.specs.{Layout.Field, Layout.widths, Layout.Fit, Layout.Bytes, Layout.fields, Layout.Framed, Layout.write, Twos.encode, Twos.decode, Twos.Fits}

-- Fields that fit, written and read, are the same fields, and the bytes are as long as their widths demand.
abbrev pub FieldsWriteRead : List Field → Type 0
FieldsWriteRead fs = Fit fs → fields (write fs) 0 (widths fs) ≡ fs

abbrev pub FieldsFramed : List Field → Type 0
FieldsFramed fs = Fit fs → Framed (widths fs) (write fs)

-- Bytes of that length, with zeros past the fields, read and written, are the same bytes.
abbrev pub FieldsReadWrite : (ws s : List ℕ) → Type 0
FieldsReadWrite ws s = Framed ws s → Bytes s → write (fields s 0 ws) ≡ s

-- A number that fits w bits is encoded in w bits, and decoded it is the same number.
abbrev pub EncodeFits : ℕ → ℤ → Type 0
EncodeFits w z = 0 < w → Fits w z → encode w z < 2 ^ w

abbrev pub EncodeDecode : ℕ → ℤ → Type 0
EncodeDecode w z = 0 < w → Fits w z → decode w (encode w z) ≡ z

-- What w bits are decoded to fits w bits, and encoded it is the same bits.
abbrev pub DecodeFits : (w x : ℕ) → Type 0
DecodeFits w x = 0 < w → x < 2 ^ w → Fits w (decode w x)

abbrev pub DecodeEncode : (w x : ℕ) → Type 0
DecodeEncode w x = x < 2 ^ w → encode w (decode w x) ≡ x
