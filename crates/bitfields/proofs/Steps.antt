-- The laws of the code of `src/lib.rt`, over its variables: a turn of each loop, a window of bytes, a field
-- put into place.
use mathlib.Core.Path.{◌≡◌, refl, sym, ◌∙◌}
use mathlib.Core.List.{List, [], ◌∷◌, ◌++◌, map, map-append}
use Prim.Native.Nat.{ℕ, zero, suc, ◌+◌, ◌-◌, ◌*◌, ◌/◌, ◌%◌, ◌^◌, ◌<◌, ◌≤◌}
use native.Mathlib.Nat.{add_assoc, add-mul, add-zero, div-one, le_of_eq, lt_of_lt_of_le, mod-eq_of_lt, mul_assoc, mul-le-mul_left, mul-suc}
use native.Mathlib.Numerals.{add-one}
use native.Mathlib.Omega.{arith}
use lib.Arith.{digits_lt}
use lib.IntN.{ℤ, pos}
use lib.ListN.{length, set, take, drop, get_or, length-append, length-drop, length-map}
use lib.Pow.{pow-add, pow_mono, shl_lt, shr_lt}
use lib.Seq.{append_snoc, drop-cons, get_or-drop, length-take-le, paste, paste-suc, set_at, take_all, take-suc}
use Rattle.bitfields.specs.Layout.{Field, bits, Fit, each, bytes_for, fill, octets, number8, Bytes, field, pack, put}
use Rattle.bitfields.specs.Twos.{encode, decode, AllFit, numbers}
use Rattle.bitfields.proofs.Spelling.{bits_each, bits-one, bytes-append, bytes-octets, bytes_take, length-octets, number-one, number8-append, number8_inj, number8-octets}
use Rattle.bitfields.proofs.Reading.{field_all, field_join, field_lt, field_part}
use Rattle.bitfields.proofs.Writing.{bytes-pack, length-pack, number8-pack, put-append}
use Rattle.bitfields.proofs.Twos.{fit_encodes, fits-take, length-numbers, numbers-suc}

-- ---- bytes read

-- a turn of `read_bytes`: one more byte
pub read_bytes_turn : (s : List ℕ) (at j x : ℕ) → at + j < length s → x ≡ number8 (take j (drop at s)) → x * 256 + get_or s (at + j) 0 ≡ number8 (take (j + 1) (drop at s))
read_bytes_turn s at j x h e =
    let k : j < length (drop at s) = rw length-drop (omega arith) in
    rw (add-one, take-suc (drop at s) j 0, number8-append, number-one, get_or-drop, e)

pub read_bytes_turn_lt : (j : ℕ) {x b : ℕ} → x < 2 ^ (8 * j) → b < 256 → x * 256 + b < 2 ^ (8 * (j + 1))
read_bytes_turn_lt j h g =
    let e : 8 * (j + 1) ≡ 8 * j + 8 = omega arith in
    rw (e, pow-add) (digits_lt h g)

pub read_fits : (j : ℕ) {x : ℕ} → x < 2 ^ (8 * j) → j < 8 → x < 2 ^ 56
read_fits j h g = lt_of_lt_of_le h (pow_mono {j = 56} (omega arith))

-- a field from a window of n bytes that holds it
pub window : {s : List ℕ} (k n at w : ℕ) → Bytes s → k + n ≤ length s → 8 * k ≤ at → at + w ≤ 8 * (k + n)
    → number8 (take n (drop k s)) / 2 ^ (8 * n - w - (at - 8 * k)) % 2 ^ w ≡ field s at w
unfolding field
window {s} k n at w b g l h =
    let m : length (take n (drop k s)) ≡ n = length-take-le n (drop k s) (rw length-drop (omega arith)) in
    let e : 8 * n - (at - 8 * k + w) ≡ 8 * n - w - (at - 8 * k) = omega arith in
    let d : 8 * k + (at - 8 * k) ≡ at = omega arith in
    rw (m, e, d) at (field_part k n (at - 8 * k) w b g (omega arith))

-- the same for a window of one byte
pub field-byte : {s : List ℕ} (k r w : ℕ) → Bytes s → k < length s → r + w ≤ 8 → field s (8 * k + r) w ≡ get_or s k 0 / 2 ^ (8 - (r + w)) % 2 ^ w
unfolding field
field-byte {s} k r w b g h =
    let e : take 1 (drop k s) ≡ get_or s k 0 ∷ [] = rw (drop-cons s k 0 g) in
    rw (e, number-one) at (sym (field_part k 1 r w b (omega arith) (omega arith)))

-- the bits that b bits leave over in the last byte
pub last-fill : {s : List ℕ} (b : ℕ) → Bytes s → bytes_for b ≡ length s → 0 < b → field s b (fill b) ≡ get_or s (length s - 1) 0 % 2 ^ ((8 - b % 8) % 8)
last-fill {s} b k h p =
    let r = 8 - fill b in
    let e : 8 * (length s - 1) + r ≡ b = omega arith in
    let d : 8 - (r + fill b) ≡ 0 = omega arith in
    let f : (8 - b % 8) % 8 ≡ fill b = omega arith in
    rw f (rw (e, d, div-one) at (field-byte (length s - 1) r (fill b) k (omega arith) (omega arith)))

-- ---- bytes written

getD_octets : (n x j : ℕ) → j < n → get_or (octets n x) j 0 ≡ x / 2 ^ (8 * (n - 1 - j)) % 256
unfolding octets
getD_octets zero x j h = absurd (omega arith)
getD_octets (suc n) x zero h =
    let e : suc n - 1 - 0 ≡ n = omega arith in
    rw e
getD_octets (suc n) x (suc j) h =
    let e : suc n - 1 - suc j ≡ n - 1 - j = omega arith in
    rw e (getD_octets n x j (omega arith))

-- a turn of `write_bytes`: one more byte
pub write-bytes_turn : (s₀ s : List ℕ) (at n x j v : ℕ) → at + n ≤ length s₀ → j < n → s ≡ paste s₀ at (octets n x) j → v ≡ x / 2 ^ (8 * (n - 1 - j)) % 256
    → set s (at + j) v ≡ paste s₀ at (octets n x) (j + 1)
write-bytes_turn s₀ s at n x j v g h e f =
    let k : at + j < length s₀ = omega arith in
    let l : j < length (octets n x) = rw length-octets h in
    rw (add-one, e, f, ← getD_octets n x j h) (paste-suc s₀ at (octets n x) j 0 k l)

pub paste_octets : (s : List ℕ) (at n x : ℕ) → paste s at (octets n x) n ≡ take at s ++ octets n x ++ drop (at + n) s
paste_octets s at n x = rw (take_all n (octets n x) (le_of_eq (length-octets n x)))

-- ---- a field put into place

-- the first k bytes, the first r bits of the byte k, and both: the bits before the field
field-bytes : {s : List ℕ} (k : ℕ) → Bytes s → k ≤ length s → field s 0 (8 * k) ≡ number8 (take k s)
field-bytes {s} k b g =
    let l : length (take k s) ≡ k = length-take-le k s g in
    sym (field_part 0 k 0 (8 * k) b (omega arith) (omega arith)) ∙ rw l at (field_all (bytes_take k b))

top_lt : {s : List ℕ} (k r : ℕ) → Bytes s → r < 8 → get_or s k 0 / 2 ^ (8 - r) < 2 ^ r
top_lt k r b f =
    let e : r + (8 - r) ≡ 8 = omega arith in
    shr_lt r (8 - r) (rw e (b.byte k))

field_top : {s : List ℕ} (k r : ℕ) → Bytes s → k < length s → r < 8 → field s (8 * k + 0) r ≡ get_or s k 0 / 2 ^ (8 - r)
field_top k r b g f =
    let e : 0 + r ≡ r = omega arith in
    field-byte k 0 r b g (omega arith) ∙ rw e (mod-eq_of_lt (top_lt k r b f))

field-before : {s : List ℕ} (k r : ℕ) → Bytes s → k < length s → r < 8 → field s 0 (8 * k + r) ≡ number8 (take k s) * 2 ^ r + get_or s k 0 / 2 ^ (8 - r)
field-before {s} k r b g f =
    let e : 0 + 8 * k ≡ 8 * k + 0 = omega arith in
    field_join s 0 (8 * k) r (omega arith) ∙ rw (field-bytes k b (omega arith), e, field_top k r b g f)

regroup : (a d v r w e : ℕ) → a * 2 ^ (r + w + e) + (d * 2 ^ w + v) * 2 ^ e ≡ ((a * 2 ^ r + d) * 2 ^ w + v) * 2 ^ e
regroup a d v r w e = simp (pow-add, add-mul, mul_assoc, add_assoc)

-- v in w bits, after the first r bits of the byte k and before e zeros, takes n bytes from k on
module _ {s : List ℕ} (k r w e n : ℕ) {v : ℕ} (b : Bytes s) (g : k < length s) (f : r < 8) (h : v < 2 ^ w) (u : r + w + e ≡ 8 * n) where
  abbrev joined : ℕ
  joined = get_or s k 0 / 2 ^ (8 - r) * 2 ^ w + v

  joined_lt : joined < 2 ^ (r + w)
  joined_lt = rw pow-add (digits_lt (top_lt k r b f) h)

  shifted_lt : joined * 2 ^ e < 2 ^ (8 * n)
  shifted_lt = rw (← u) (shl_lt (r + w) e joined_lt)

  octets-pack : e < 8 → take k s ++ octets n (joined * 2 ^ e) ≡ pack (8 * k + r + w) (field s 0 (8 * k + r) * 2 ^ w + v)
  octets-pack d =
      let m = 8 * k + r + w in
      let x = field s 0 (8 * k + r) * 2 ^ w + v in
      let c : bytes_for m ≡ k + n = omega arith in
      let i : fill m ≡ e = omega arith in
      let j : x < 2 ^ m = rw pow-add (digits_lt (field_lt s 0 (8 * k + r)) h) in
      number8_inj (bytes-append (bytes_take k b) (bytes-octets n (joined * 2 ^ e))) (bytes-pack m x)
      (rw (length-append, length-take-le k s (omega arith), length-octets, length-pack, c))
      (rw (number8-append, length-octets, number8-octets, mod-eq_of_lt shifted_lt, number8-pack m j, i, field-before k r b g f, ← u)
      (regroup (number8 (take k s)) _ v r w e))

-- the same as `write_field` has it, with what it requires
module _ {s : List ℕ} (at w : ℕ) {v : ℕ} (b : Bytes s) (pre : (at + w ≤ 8 * length s) × (0 < w) × (w ≤ 48) × (v < 2 ^ w)) where
  abbrev span : ℕ
  span = (at % 8 + w + 7) / 8

  abbrev spare : ℕ
  spare = 8 * span - (at % 8 + w)

  pub joined_fits : get_or s (at / 8) 0 / 2 ^ (8 - at % 8) * 2 ^ w + v < 2 ^ 56
  joined_fits =
      lt_of_lt_of_le (joined_lt (at / 8) (at % 8) w spare span b (omega arith) (omega arith) pre.3 (omega arith))
      (pow_mono {j = 56} (omega arith))

  pub filled-fits : (get_or s (at / 8) 0 / 2 ^ (8 - at % 8) * 2 ^ w + v) * 2 ^ spare < 2 ^ 56
  filled-fits =
      lt_of_lt_of_le (shifted_lt (at / 8) (at % 8) w spare span b (omega arith) (omega arith) pre.3 (omega arith))
      (pow_mono {j = 56} (omega arith))

  pub put-field : take (at / 8) s ++ octets span ((get_or s (at / 8) 0 / 2 ^ (8 - at % 8) * 2 ^ w + v) * 2 ^ spare) ++ drop (at / 8 + span) s ≡ put s at ((w, v) ∷ [])
  unfolding put
  put-field =
      let x : at / 8 + span ≡ bytes_for (at + w) = omega arith in
      let y : 8 * (at / 8) + at % 8 ≡ at = omega arith in
      let z = octets-pack (at / 8) (at % 8) w spare span b (omega arith) (omega arith) pre.3 (omega arith) (omega arith) in
      rw (bits-one, number-one, z, x, y)

-- ---- numbers read and written, one after the other

pub step_le : (w i n : ℕ) → i < n → w * i + w ≤ w * n
step_le w i n h = rw mul-suc at (mul-le-mul_left w h)

pub step_eq : (at w i : ℕ) → at + w * i + w ≡ at + w * (i + 1)
step_eq at w i = rw (add-one, mul-suc) (add_assoc at (w * i) w)

-- a turn of `read_numbers`: one more number, over d as it came
pub read_numbers_turn : (d out : List ℤ) (s : List ℕ) (at w i : ℕ) (z : ℤ) → i < length d → out ≡ numbers s at w i ++ drop i d → z ≡ decode w (field s (at + w * i) w)
    → set out i z ≡ numbers s at w (i + 1) ++ drop (i + 1) d
read_numbers_turn d out s at w i z h e f =
    rw (e, f, add-one, drop-cons d i (pos 0) h, numbers-suc s at w i)
    (set_at (numbers s at w i) _ _ _ i (length-numbers s at w i) ∙ sym (append_snoc (numbers s at w i) _ _))

-- what `write_numbers` has made of s: the fields put at the bit `at`, and s itself as long as there are none
unfoldable pub so_far : List ℕ → ℕ → List Field → List ℕ
so_far s at [] = s
so_far s at (f ∷ fs) = put s at (f ∷ fs)

so_far_more : {s : List ℕ} (at : ℕ) {fs : List Field} (g : Field) → Bytes s → Fit fs → put (so_far s at fs) (at + bits fs) (g ∷ []) ≡ so_far s at (fs ++ (g ∷ []))
unfolding so_far bits
so_far_more at {fs = []} g b h = rw add-zero
so_far_more at {fs = f ∷ fs} g b h = sym (put-append at (g ∷ []) b h)

pub so_far_all : (s : List ℕ) (at w : ℕ) (zs : List ℤ) → 0 < length zs → so_far s at (each w (map (encode w) zs)) ≡ put s at (each w (map (encode w) zs))
unfolding so_far
so_far_all s at w [] h = absurd (omega arith)
so_far_all s at w (z ∷ zs) h = refl

-- a turn of `write_numbers`: one more number, over d as it came
pub write-numbers_turn : (d s : List ℕ) (at w : ℕ) (zs : List ℤ) (i p v : ℕ) → s ≡ so_far d at (each w (map (encode w) (take i zs))) → p ≡ at + w * i → v ≡ encode w (get_or zs i (pos 0))
    → Bytes d → 0 < w → AllFit w zs → i < length zs → put s p ((w, v) ∷ []) ≡ so_far d at (each w (map (encode w) (take (i + 1) zs)))
write-numbers_turn d s at w zs i p v a b c k q h l =
    let fs = each w (map (encode w) (take i zs)) in
    let m : bits fs ≡ w * i = bits_each w (map (encode w) (take i zs)) ∙ rw (length-map, length-take-le i zs (omega arith)) in
    let f : Field = (w, encode w (get_or zs i (pos 0))) in
    let u : each w (map (encode w) (take (i + 1) zs)) ≡ fs ++ (f ∷ []) = rw (add-one, take-suc zs i (pos 0) l, map-append, map-append) in
    rw (a, b, c, u, ← m) (so_far_more at f k (fit_encodes q (fits-take i h)))
