-- Laws of two's complement: encoding and decoding undo each other, for one number and for lists of them.
use mathlib.Core.Path.{◌≡◌, refl, sym, ap, ◌∙◌}
use mathlib.Core.List.{List, [], ◌∷◌, ◌++◌, map, map-append}
use mathlib.Core.Bool.{true, false}
use mathlib.Core.Logic.{⊎_elim}
use Prim.Native.Nat.{ℕ, zero, suc, ◌+◌, ◌-◌, ◌*◌, ◌%◌, ◌^◌, ◌<◌, ◌≤◌, min}
use native.Mathlib.Nat.{lt_of_lt_of_le, mod-eq_of_lt, mod-lt, two-pow-succ}
use native.Mathlib.Omega.{arith}
use mir.Syntax.{w64}
use mir.Val.{SFits, to_z, of_z}
use borrow.Author.Rules.{sfits_of}
use borrow.Author.Tests.{le-ltb, lt-ltb, ltb-true}
use lib.IntN.{ℤ, pos, negsuc, ◌-ℤ◌, nat_abs, +ℤ_idr}
use lib.ListN.{length, take, get_or, replicate, length-map, length-take, get_or-map}
use lib.Pow.{pow_mono, pow_pos}
use lib.Pow as Pow
use lib.Seq.{get_or-take}
use lib.Signed.{mag, lt_z}
use Rattle.bitfields.specs.Layout.{Field, Fit, none, more, each, Bytes, bits, write, field, fields, values_from}
use Rattle.bitfields.specs.Twos.{encode, decode, Fits, fitsb, AllFit, numbers}
use Rattle.bitfields.proofs.Reading.{field_lt, fields_replicate, fit-fields, getD_values_from, length-values_from, values_from-suc}
use Rattle.bitfields.proofs.RoundTrip.{values_from-after}
use Rattle.bitfields.specs.RoundTrips.{EncodeDecode, EncodeFits, DecodeEncode, DecodeFits}
use Rattle.integers.proofs.Machine.{i64_kept}
use Rattle.integers.proofs.Maximum.{le_or_lt}

-- ---- one number

halves : (w : ℕ) → 0 < w → 2 ^ w ≡ 2 ^ (w - 1) + 2 ^ (w - 1)
halves w p =
    let e : suc (w - 1) ≡ w = omega arith in
    rw e at (two-pow-succ (w - 1))

-- below half of 2 ^ w, and from there on
pub decode_low : (w x : ℕ) → x < 2 ^ (w - 1) → decode w x ≡ pos x
unfolding decode
decode_low w x h = rw (lt-ltb x (2 ^ (w - 1)) h)

pub decode_high : (w x : ℕ) → 2 ^ (w - 1) ≤ x → decode w x ≡ negsuc (2 ^ w - suc x)
unfolding decode
decode_high w x h = rw (le-ltb x (2 ^ (w - 1)) h)

-- a difference that is negative, and one that is not
below : (a b : ℕ) → a < b → pos a -ℤ pos b ≡ negsuc (b - suc a)
below a zero h = absurd (omega arith)
below a (suc m) h = rw (lt-ltb a (suc m) h)

above : (a b : ℕ) → b ≤ a → pos a -ℤ pos b ≡ pos (a - b)
above a zero h = let e : a - 0 ≡ a = omega arith in rw e (+ℤ_idr (pos a))
above a (suc m) h = rw (le-ltb a (suc m) h)

-- x plus half of 2 ^ w, modulo 2 ^ w, less the half
pub decode_round : (w x : ℕ) → 0 < w → x < 2 ^ w → pos ((x + 2 ^ (w - 1)) % 2 ^ w) -ℤ pos (2 ^ (w - 1)) ≡ decode w x
decode_round w x p h = ⊎_elim high low (le_or_lt (2 ^ (w - 1)) x)
  where
    low : x < 2 ^ (w - 1) → pos ((x + 2 ^ (w - 1)) % 2 ^ w) -ℤ pos (2 ^ (w - 1)) ≡ decode w x
    low l =
        let e : (x + 2 ^ (w - 1)) % 2 ^ w ≡ x + 2 ^ (w - 1) = mod-eq_of_lt (omega (arith, halves w p)) in
        let d : x + 2 ^ (w - 1) - 2 ^ (w - 1) ≡ x = omega arith in
        rw (e, above (x + 2 ^ (w - 1)) (2 ^ (w - 1)) (omega arith), d) (sym (decode_low w x l))

    high : 2 ^ (w - 1) ≤ x → pos ((x + 2 ^ (w - 1)) % 2 ^ w) -ℤ pos (2 ^ (w - 1)) ≡ decode w x
    high l =
        let y = x - 2 ^ (w - 1) in
        let o : y < 2 ^ w = omega arith in
        let e : x + 2 ^ (w - 1) ≡ 1 * 2 ^ w + y = omega (arith, halves w p) in
        let d : 2 ^ (w - 1) - suc y ≡ 2 ^ w - suc x = omega (arith, halves w p) in
        rw (e, Pow.low 1 w o, below y (2 ^ (w - 1)) (omega (arith, halves w p)), d) (sym (decode_high w x l))

pub decode-encode : {w : ℕ} {z : ℤ} → EncodeDecode w z
unfolding encode
decode-encode {w} {z = pos n} p h = decode_low w n h.size
decode-encode {w} {z = negsuc n} p h =
    let e = halves w p in
    let y : 2 ^ w - suc (2 ^ w - suc n) ≡ n = omega arith in
    decode_high w (2 ^ w - suc n) (omega arith) ∙ ap negsuc y

pub encode_lt : {w : ℕ} {z : ℤ} → EncodeFits w z
unfolding encode
encode_lt {w} {z = pos n} p h = omega (arith, halves w p, h.size)
encode_lt {w} {z = negsuc n} p h = omega (arith, halves w p, h.size)

pub encode-decode : (w x : ℕ) → DecodeEncode w x
unfolding encode
encode-decode w x h =
    ⊎_elim
    (λ (g : 2 ^ (w - 1) ≤ x). rw (decode_high w x g) (omega arith))
    (λ (l : x < 2 ^ (w - 1)). rw (decode_low w x l))
    (le_or_lt (2 ^ (w - 1)) x)

pub decode-fits : (w x : ℕ) → DecodeFits w x
decode-fits w x p h =
    ⊎_elim
    (λ (g : 2 ^ (w - 1) ≤ x). rw (decode_high w x g) (record { size = omega (arith, halves w p) }))
    (λ (l : x < 2 ^ (w - 1)). rw (decode_low w x l) (record { size = l }))
    (le_or_lt (2 ^ (w - 1)) x)

-- the test and the fact
pub fitsb_true : (w : ℕ) (z : ℤ) → fitsb w z ≡ true → Fits w z
unfolding fitsb
fitsb_true w z h = record { size = ltb-true (mag z) (2 ^ (w - 1)) h }

pub fits-fitsb : {w : ℕ} {z : ℤ} → Fits w z → fitsb w z ≡ true
unfolding fitsb
fits-fitsb {w} {z} h = lt-ltb (mag z) (2 ^ (w - 1)) h.size

-- ---- lists

-- what is known of each number of a list is known of its head and of its rest
head_fits : {w : ℕ} {z : ℤ} {zs : List ℤ} → AllFit w (z ∷ zs) → Fits w z
head_fits h = h.each_fits 0 (omega arith)

rest-fits : {w : ℕ} {z : ℤ} {zs : List ℤ} → AllFit w (z ∷ zs) → AllFit w zs
rest-fits h = record { each_fits = λ i l. h.each_fits (suc i) (omega arith) }

pub fits-take : (n : ℕ) {w : ℕ} {zs : List ℤ} → AllFit w zs → AllFit w (take n zs)
fits-take n {w} {zs} h = record {
  each_fits = λ i l.
      let k : i < min n (length zs) = rw length-take at l in
      rw (get_or-take n zs i (pos 0) (omega arith)) (h.each_fits i (omega arith));
}

pub decode_encodes : {w : ℕ} {zs : List ℤ} → 0 < w → AllFit w zs → map (decode w) (map (encode w) zs) ≡ zs
decode_encodes {zs = []} p h = refl
decode_encodes {zs = z ∷ zs} p h = rw (decode-encode p (head_fits h), decode_encodes p (rest-fits h))

pub encode_decodes : (w : ℕ) (vs : List ℕ) → Fit (each w vs) → map (encode w) (map (decode w) vs) ≡ vs
encode_decodes w [] h = refl
encode_decodes w (v ∷ vs) (more h r) = rw (encode-decode w v h, encode_decodes w vs r)

pub fit_encodes : {w : ℕ} {zs : List ℤ} → 0 < w → AllFit w zs → Fit (each w (map (encode w) zs))
fit_encodes {zs = []} p h = none
fit_encodes {zs = z ∷ zs} p h = more (encode_lt p (head_fits h)) (fit_encodes p (rest-fits h))

-- ---- the numbers of a byte list

pub length-numbers : (s : List ℕ) (at w n : ℕ) → length (numbers s at w n) ≡ n
length-numbers s at w n = length-map (values_from s at w n) (decode w) ∙ length-values_from s at w n

pub getD_numbers : (s : List ℕ) (at w n i : ℕ) → i < n → get_or (numbers s at w n) i (pos 0) ≡ decode w (field s (at + w * i) w)
getD_numbers s at w n i h =
    ap (get_or (numbers s at w n) i) (sym (decode_low w 0 (pow_pos (w - 1))))
    ∙ get_or-map (decode w) (values_from s at w n) i 0
    ∙ ap (decode w) (getD_values_from s at w n i h)

pub numbers-suc : (s : List ℕ) (at w n : ℕ) → numbers s at w (suc n) ≡ numbers s at w n ++ (decode w (field s (at + w * n) w) ∷ [])
numbers-suc s at w n = ap (map (decode w)) (values_from-suc s at w n) ∙ map-append _ (values_from s at w n) _

pub numbers-all_fit : (s : List ℕ) (at w n : ℕ) → 0 < w → AllFit w (numbers s at w n)
numbers-all_fit s at w n p = record {
  each_fits = λ i l.
      rw (getD_numbers s at w n i (rw (length-numbers s at w n) at l)) (decode-fits w _ p (field_lt s (at + w * i) w));
}

pub fields-numbers : (s : List ℕ) (at w n : ℕ) → fields s at (replicate n w) ≡ each w (map (encode w) (numbers s at w n))
fields-numbers s at w n =
    rw (encode_decodes w (values_from s at w n) (rw (fields_replicate s at w n) at (fit-fields s at (replicate n w))))
    (fields_replicate s at w n)

-- numbers that were written after other fields are read
pub numbers_after : {fs : List Field} {w : ℕ} {zs : List ℤ} {t : List ℕ} → 0 < w → Fit fs → AllFit w zs → Bytes t
    → numbers (write (fs ++ each w (map (encode w) zs)) ++ t) (bits fs) w (length zs) ≡ zs
numbers_after {fs} {w} {zs} {t} p h g k =
    let e = values_from-after w (map (encode w) zs) h (fit_encodes p g) k in
    ap (map (decode w)) (rw (length-map zs (encode w)) at e) ∙ decode_encodes p g

-- ---- by the sign and `mag`, as the code has it

pub nat_abs_mag : (z : ℤ) → lt_z z (pos 0) ≡ false → nat_abs z ≡ mag z
nat_abs_mag (pos n) h = refl
nat_abs_mag (negsuc n) h = let e : ◌≡◌ {A = ℕ} 0 1 = cc in absurd (omega arith)

pub encode_negative : (w : ℕ) (z : ℤ) → lt_z z (pos 0) ≡ true → 2 ^ w - 1 - mag z ≡ encode w z
unfolding encode
encode_negative w (pos n) h = let l = ltb-true n 0 h in absurd (omega arith)
encode_negative w (negsuc n) h = omega arith

pub encode_not_negative : (w : ℕ) (z : ℤ) → lt_z z (pos 0) ≡ false → mag z ≡ encode w z
unfolding encode
encode_not_negative w (pos n) h = refl
encode_not_negative w (negsuc n) h = let e : ◌≡◌ {A = ℕ} 0 1 = cc in absurd (omega arith)

pub mag_le : {w : ℕ} {z : ℤ} → 0 < w → Fits w z → mag z ≤ 2 ^ w - 1
mag_le {w} p h = omega (arith, halves w p, h.size)

-- a number of at most 48 bits is in range
pub in_word : {w : ℕ} {z : ℤ} → w ≤ 48 → Fits w z → mag z < 2 ^ 63
in_word l h = lt_of_lt_of_le h.size (pow_mono {j = 63} (omega arith))

-- ---- the number that w bits stand for, as the code has it

module _ (w x : ℕ) (p : 0 < w) (k : w ≤ 48) (h : x < 2 ^ w) where
  pub half_small : 2 ^ (w - 1) < 2 ^ 63
  half_small = omega (arith, pow_mono {i = w - 1} {j = 48} (omega arith))

  pub round_sum : x + 2 ^ (w - 1) < 2 ^ 63
  round_sum = omega (arith, halves w p, pow_mono {i = w} {j = 48} k)

  pub round_small : (x + 2 ^ (w - 1)) % 2 ^ w < 2 ^ 63
  round_small = omega (arith, mod-lt (x + 2 ^ (w - 1)) (pow_pos w), pow_mono {i = w} {j = 48} k)

  decode_word : mag (decode w x) < 2 ^ 63
  decode_word = in_word k (decode-fits w x p h)

  module _ (a b : ℤ) (ea : a ≡ pos ((x + 2 ^ (w - 1)) % 2 ^ w)) (eb : b ≡ pos (2 ^ (w - 1))) where
    difference_is : to_z w64 (of_z w64 a) -ℤ to_z w64 (of_z w64 b) ≡ decode w x
    difference_is =
        rw (ea, eb, i64_kept (pos ((x + 2 ^ (w - 1)) % 2 ^ w)) round_small, i64_kept (pos (2 ^ (w - 1))) half_small) (decode_round w x p h)

    pub difference_fits : SFits w64 (to_z w64 (of_z w64 a) -ℤ to_z w64 (of_z w64 b))
    difference_fits = rw difference_is (sfits_of decode_word)

    pub difference_read : to_z w64 (of_z w64 (to_z w64 (of_z w64 a) -ℤ to_z w64 (of_z w64 b))) ≡ decode w x
    difference_read = rw difference_is (i64_kept (decode w x) decode_word)
