-- Bit fields of a byte list, most significant bit first: what number a list of fields spells, which bytes
-- hold it, and which fields a byte list has. A format is a list of widths and no more; the bits go by way of
-- one number, so that a field is a quotient and a remainder.
use mathlib.Core.{Path.◌≡◌, List.List, List.[], List.◌∷◌, List.◌++◌, List.map}
use Rattle.std.specs.Prelude.{ℕ, zero, suc, ◌+◌, ◌-◌, ◌*◌, ◌/◌, ◌%◌, ◌^◌, ◌<◌, length, get_or, drop}

-- ---- fields and the number that they spell

-- A field: its width in bits, and its value.
abbrev pub Field : Type 0
Field = ℕ × ℕ

-- How many bits the fields take together.
unfoldable pub bits : List Field → ℕ
bits [] = 0
bits (f ∷ fs) = f.0 + bits fs

-- The number that the fields spell one after the other: each value, shifted past the bits that follow it.
unfoldable pub number : List Field → ℕ
number [] = 0
number (f ∷ fs) = f.1 * 2 ^ bits fs + number fs

-- The widths alone, and how many bits they come to.
abbrev pub widths : List Field → List ℕ
widths fs = map (λ (f : Field). f.0) fs

unfoldable pub total_width : List ℕ → ℕ
total_width [] = 0
total_width (w ∷ ws) = w + total_width ws

-- Each value fits its width: nothing runs over into the field before it.
pub data Fit : List Field → Type 0 where
  none : Fit []
  more : {w v : ℕ} {fs : List Field} → v < 2 ^ w → Fit fs → Fit ((w, v) ∷ fs)

-- Fields of one width w.
abbrev pub each : ℕ → List ℕ → List Field
each w vs = map (λ (v : ℕ). (w, v)) vs

-- ---- bytes

-- How many bytes b bits take, and how many bits of the last of them are left over.
abbrev pub bytes_for : ℕ → ℕ
bytes_for b = (b + 7) / 8

abbrev pub fill : ℕ → ℕ
fill b = 8 * bytes_for b - b

-- The n low bytes of x, the most significant first.
unfoldable pub octets : ℕ → ℕ → List ℕ
octets zero x = []
octets (suc n) x = x / 2 ^ (8 * n) % 2 ^ 8 ∷ octets n x

-- The number of a byte list: its bytes are fields of 8 bits.
abbrev pub number8 : List ℕ → ℕ
number8 s = number (each 8 s)

-- Every element is a byte. Put by index, 0 past the end, as the contents of a slice are known.
pub record Bytes (s : List ℕ) : Type 0 where
  pub byte : (i : ℕ) → get_or s i 0 < 256

-- ---- reading

-- The field of w bits at the bit `at` of s: what is behind it is divided away, what is before it is cut off.
unfoldable pub field : (s : List ℕ) (at w : ℕ) → ℕ
field s at w = number8 s / 2 ^ (8 * length s - (at + w)) % 2 ^ w

-- The fields of the widths ws, one after the other from the bit `at` on.
unfoldable pub fields : (s : List ℕ) (at : ℕ) (ws : List ℕ) → List Field
fields s at [] = []
fields s at (w ∷ ws) = (w, field s at w) ∷ fields s (at + w) ws

-- The n values of w bits from the bit `at` on.
unfoldable pub values_from : (s : List ℕ) (at w n : ℕ) → List ℕ
values_from s at w zero = []
values_from s at w (suc n) = field s at w ∷ values_from s (at + w) w n

-- s is as long as the widths demand, and the bits left over in its last byte are 0.
pub record Framed (ws s : List ℕ) : Type 0 where
  pub size : length s ≡ bytes_for (total_width ws)
  pub zeros : field s (total_width ws) (fill (total_width ws)) ≡ 0

-- ---- writing

-- The bytes of b bits that spell x, with zeros to the byte.
unfoldable pub pack : (b x : ℕ) → List ℕ
pack b x = octets (bytes_for b) (x * 2 ^ fill b)

-- The bytes of the fields.
abbrev pub write : List Field → List ℕ
write fs = pack (bits fs) (number fs)

-- s with its first `at` bits kept, then the fields, zeros to the byte, and the bytes past that kept. Put over
-- a list of fields, so that one definition is a field written, all fields written, and every state between.
unfoldable pub put : (s : List ℕ) (at : ℕ) (fs : List Field) → List ℕ
put s at fs = pack (at + bits fs) (field s 0 at * 2 ^ bits fs + number fs) ++ drop (bytes_for (at + bits fs)) s

-- A buffer s with the bytes of the fields at its front, and its own bytes past them.
unfoldable pub written : List ℕ → List Field → List ℕ
written s fs = write fs ++ drop (bytes_for (bits fs)) s
