-- Several digits as one number, over the code's variables: the number that they spell, and the digits of a
-- field. Assumes nothing.
use mathlib.Core.Path.{◌≡◌, refl, sym, ap, ◌∙◌}
use mathlib.Core.List.{List, [], ◌∷◌, ◌++◌, map, map-append}
use mathlib.Core.Logic.{◌⊎◌, inl, inr}
use Prim.Native.Nat.{ℕ, ◌+◌, ◌-◌, ◌*◌, ◌/◌, ◌%◌, ◌^◌, ◌<◌, ◌≤◌, min}
use native.Mathlib.Nat.{div-one, lt_of_lt_of_le, mul_assoc, zero-div}
use native.Mathlib.Numerals.{add-one}
use native.Mathlib.Omega.{arith}
use lib.Arith.{digits_lt}
use lib.IntN.{ℤ, pos}
use lib.ListN.{length, replicate, length-append, length-map, length-replicate, get_or-replicate, get_or-append}
use lib.Pow.{high, pow-add, pow_mono, shl_lt, shl-shr, shr-shr}
use lib.Seq.{get_or-append-add, sets}
use Rattle.integers.specs.Flat.{at, list_from}
use Rattle.integers.proofs.Flat.{length-list_from, getD_list_from}
use Rattle.integers.proofs.Maximum.{le_or_lt}
use Rattle.bitfields.specs.Layout.{number, field, values_from}
use Rattle.bitfields.specs.Twos.{encode, decode, AllFit, numbers}
use Rattle.bitfields.proofs.Spelling.{bits_each, bits-one, number_append, number_lt, number-one}
use Rattle.bitfields.proofs.Reading.{field-inside, values_from-append}
use Rattle.bitfields.proofs.Twos.{decode_low, fit_encodes, getD_numbers, length-numbers}
use Rattle.trace.proofs.Digits.{list_from_ext, sets_append}
use Rattle.trace.specs.Inner.{digits_from, digit_in, digits_in, digit_fields, DigitsFit, ZerosAt}
use Rattle.trace.proofs.Storing.{list_from-more, sets_none, clear_past, clear_front}

-- ---- the number that digits spell

pub digits_more : (ds : List ℤ) (i x : ℕ) → digits_from ds i (x + 1) ≡ digits_from ds i x ++ (at ds (i + x) ∷ [])
digits_more ds i x = let o : 0 + x ≡ x = omega arith in rw add-one (list_from-more 0 x (λ x. at ds (i + x)) ∙ rw o)

pub digits-number_turn : (ds : List ℤ) (i x v u : ℕ) → v ≡ number (digit_fields (digits_from ds i x)) → u ≡ encode 5 (at ds (i + x))
    → v * 32 + u ≡ number (digit_fields (digits_from ds i (x + 1)))
digits-number_turn ds i x v u e g =
    rw (digits_more ds i x, map-append, map-append, number_append, bits-one, number-one, e, g)

module _ {ds : List ℤ} {i c : ℕ} (a : DigitsFit ds i c) where
  pub front_fits : (x : ℕ) → x ≤ c → AllFit 5 (digits_from ds i x)
  front_fits x l = record {
    each_fits = λ y h.
        let q : y < x = rw (length-list_from 0 x (λ x. at ds (i + x))) at h in
        let o : 0 + y ≡ y = omega arith in
        rw (getD_list_from 0 x (λ x. at ds (i + x)) y q, o) (a.each_fits y (omega arith));
  }

  pub digits-number-fits : (x : ℕ) → x ≤ c → number (digit_fields (digits_from ds i x)) < 2 ^ (5 * x)
  digits-number-fits x l =
      rw (bits_each 5 (map (encode 5) (digits_from ds i x)), length-map (digits_from ds i x) (encode 5), length-list_from 0 x (λ x. at ds (i + x))) at
      (number_lt (fit_encodes {w = 5} (omega arith) (front_fits x l)))

-- eight digits are taken, of which c count: what they spell with the bits of the others after them
module _ (ds : List ℤ) (i c : ℕ) where
  pub digits-number-start : 0 / 2 ^ (5 * (0 - c)) ≡ number (digit_fields (digits_from ds i (min 0 c)))
  unfolding list_from number
  digits-number-start = let e : min 0 c ≡ 0 = omega arith in rw (e, zero-div)

  pub digits-number-next : (x v u : ℕ) → u < 32 → (x < c → u ≡ encode 5 (at ds (i + x))) → v / 2 ^ (5 * (x - c)) ≡ number (digit_fields (digits_from ds i (min x c)))
      → (v * 32 + u) / 2 ^ (5 * (x + 1 - c)) ≡ number (digit_fields (digits_from ds i (min (x + 1) c)))
  digits-number-next x v u l f g = by_case (le_or_lt c x)
    where
      by_case : (c ≤ x) ⊎ (x < c) → (v * 32 + u) / 2 ^ (5 * (x + 1 - c)) ≡ number (digit_fields (digits_from ds i (min (x + 1) c)))
      by_case (inl h) =
          let a : min x c ≡ c = omega arith in
          let b : min (x + 1) c ≡ c = omega arith in
          let e : 5 * (x + 1 - c) ≡ 5 + 5 * (x - c) = omega arith in
          rw (b, e, ← shr-shr (v * 32 + u) 5 (5 * (x - c)), high v 5 l) (rw a at g)
      by_case (inr h) =
          let a : min x c ≡ x = omega arith in
          let b : min (x + 1) c ≡ x + 1 = omega arith in
          let d : 5 * (x - c) ≡ 0 = omega arith in
          let e : 5 * (x + 1 - c) ≡ 0 = omega arith in
          rw (b, e, div-one) (digits-number_turn ds i x v u (rw (a, d, div-one) at g) (f h))

  pub digits-number_end : (x v : ℕ) → x ≡ 8 → c ≤ 8 → v / 2 ^ (5 * (x - c)) ≡ number (digit_fields (digits_from ds i (min x c)))
      → v / 2 ^ (5 * (8 - c)) ≡ number (digit_fields (digits_from ds i c))
  digits-number_end x v e l g = let a : min 8 c ≡ c = omega arith in rw a at (rw e at g)

-- a number of x digits, and before a turn there is room for 5 bits more
pub digits-number_lt : (x : ℕ) {v u : ℕ} → v < 2 ^ (5 * x) → u < 32 → v * 32 + u < 2 ^ (5 * (x + 1))
digits-number_lt x h g = let e : 5 * (x + 1) ≡ 5 * x + 5 = omega arith in rw (e, pow-add) (digits_lt h g)

pub digits-number-small : (x : ℕ) {v : ℕ} → v < 2 ^ (5 * x) → x < 8 → v < 2 ^ 35
digits-number-small x h l = lt_of_lt_of_le h (pow_mono {j = 35} (omega arith))

-- ---- a group of digits read as one field

numbers-append : (s : List ℕ) (p w n m : ℕ) → numbers s p w (n + m) ≡ numbers s p w n ++ numbers s (p + w * n) w m
numbers-append s p w n m = ap (map (decode w)) (values_from-append s p w n m) ∙ map-append (decode w) (values_from s p w n) (values_from s (p + w * n) w m)

pub digits_read : (s : List ℕ) (p c v : ℕ) → p + 5 * c ≤ 8 * length s → v ≡ field s p (5 * c) → digits_in c v ≡ numbers s p 5 c
digits_read s p c v h e =
    list_from_ext 0 c (digit_in c v) (numbers s p 5 c) (length-numbers s p 5 c)
    (λ x l.
    let o : 0 + x ≡ x = omega arith in
    let d : 5 * c - (5 * x + 5) ≡ 5 * (c - 1 - x) = omega arith in
    let i = rw d at (field-inside s p (5 * c) (5 * x) 5 h (omega arith)) in
    rw (o, e, i) (sym (getD_numbers s p 5 c x l)))

-- c digits as the first of eight
pub eight_fits : (c : ℕ) {v : ℕ} → c ≤ 8 → v < 2 ^ (5 * c) → v * 2 ^ (5 * (8 - c)) < 2 ^ 40
eight_fits c l h = let e : 5 * c + 5 * (8 - c) ≡ 40 = omega arith in rw e at (shl_lt (5 * c) (5 * (8 - c)) h)

first_of_eight : (c v x : ℕ) → c ≤ 8 → x < c → v * 2 ^ (5 * (8 - c)) / 2 ^ (5 * (8 - 1 - x)) % 32 ≡ v / 2 ^ (5 * (c - 1 - x)) % 32
first_of_eight c v x l h =
    let e : 5 * (8 - 1 - x) ≡ 5 * (8 - c) + 5 * (c - 1 - x) = omega arith in
    rw (e, ← shr-shr (v * 2 ^ (5 * (8 - c))) (5 * (8 - c)) (5 * (c - 1 - x)), shl-shr v (5 * (8 - c)))

rest_of_eight : (c v x : ℕ) → x < 8 → c ≤ x → v * 2 ^ (5 * (8 - c)) / 2 ^ (5 * (8 - 1 - x)) % 32 ≡ 0
rest_of_eight c v x l h =
    let e : 5 * (8 - c) ≡ 5 * (x - c) + 5 + 5 * (8 - 1 - x) = omega arith in
    rw (e, pow-add, pow-add, ← mul_assoc, ← mul_assoc, shl-shr (v * 2 ^ (5 * (x - c)) * 2 ^ 5) (5 * (8 - 1 - x))) (omega arith)

digits_of_eight : (c v : ℕ) → c ≤ 8 → digits_in 8 (v * 2 ^ (5 * (8 - c))) ≡ digits_in c v ++ replicate (8 - c) (pos 0)
digits_of_eight c v l =
    list_from_ext 0 8 (digit_in 8 (v * 2 ^ (5 * (8 - c)))) (digits_in c v ++ replicate (8 - c) (pos 0))
    (rw (length-append, length-list_from, length-replicate) (omega arith))
    (λ x h. by_case x h (le_or_lt c x))
  where
    by_case : (x : ℕ) → x < 8 → (c ≤ x) ⊎ (x < c) → digit_in 8 (v * 2 ^ (5 * (8 - c))) (0 + x) ≡ at (digits_in c v ++ replicate (8 - c) (pos 0)) x
    by_case x h (inr g) =
        let o : 0 + x ≡ x = omega arith in
        rw (o, first_of_eight c v x l g)
        (sym (get_or-append (digits_in c v) (replicate (8 - c) (pos 0)) (pos 0) x (rw length-list_from g) ∙ getD_list_from 0 c (digit_in c v) x g ∙ rw o))
    by_case x h (inl g) =
        let o : 0 + x ≡ x = omega arith in
        let q : x ≡ c + (x - c) = omega arith in
        rw (o, rest_of_eight c v x h g, decode_low 5 0 (omega arith))
        (sym (ap (at (digits_in c v ++ replicate (8 - c) (pos 0))) q
        ∙ rw (length-list_from 0 c (digit_in c v)) at (get_or-append-add (digits_in c v) (replicate (8 - c) (pos 0)) (x - c) (pos 0))
        ∙ get_or-replicate (8 - c) (x - c) (pos 0) (pos 0) (omega arith)))

-- eight stored where zeros stand are as many as count
eight_stored : (d e : List ℤ) (i c v u : ℕ) → c ≤ 8 → ZerosAt d i 8 → u ≡ v * 2 ^ (5 * (8 - c)) → e ≡ sets d i (digits_in 8 u) → e ≡ sets d i (digits_in c v)
eight_stored d e i c v u l h f g =
    g ∙ rw (f, digits_of_eight c v l, sets_append d i (digits_in c v) (replicate (8 - c) (pos 0)), length-list_from 0 c (digit_in c v))
    (sets_none (sets d i (digits_in c v)) (i + c) (8 - c) (clear_past (digits_in c v) c (length-list_from 0 c (digit_in c v)) l h))

-- a step of at most eight rows, and one of more
pub step_read : (s : List ℕ) (d e : List ℤ) (p n i u : ℕ) → p + 5 * n ≤ 8 * length s → n ≤ 8 → ZerosAt d i 16
    → u ≡ field s p (5 * n) * 2 ^ (5 * (8 - n)) → e ≡ sets d i (digits_in 8 u) → e ≡ sets d i (numbers s p 5 n)
step_read s d e p n i u h l a f g =
    eight_stored d e i n (field s p (5 * n)) u l (clear_front 8 (omega arith) a) f g ∙ ap (sets d i) (digits_read s p n (field s p (5 * n)) h refl)

pub steps_read : (s : List ℕ) (d e f : List ℤ) (p n i v u : ℕ) → p + 5 * n ≤ 8 * length s → 8 < n → n ≤ 16 → ZerosAt d i 16
    → v ≡ field s p 40 → e ≡ sets d i (digits_in 8 v) → u ≡ field s (p + 40) (5 * (n - 8)) * 2 ^ (5 * (8 - (n - 8))) → f ≡ sets e (i + 8) (digits_in 8 u)
    → f ≡ sets d i (numbers s p 5 n)
steps_read s d e f p n i v u h l k z a b c g =
    let m : n ≡ 8 + (n - 8) = omega arith in
    let y = field s (p + 40) (5 * (n - 8)) in
    let w : ZerosAt e (i + 8) 8 = rw b (clear_past (digits_in 8 v) 8 (length-list_from 0 8 (digit_in 8 v)) (omega arith) z) in
    let t = eight_stored e f (i + 8) (n - 8) y u (omega arith) w c g in
    let r = digits_read s p 8 v (omega arith) a in
    let q = digits_read s (p + 40) (n - 8) y (omega arith) refl in
    t ∙ rw (b, r, q) (sym (ap (λ (x : ℕ). sets d i (numbers s p 5 x)) m ∙ rw (numbers-append s p 5 8 (n - 8)) (sets_append d i (numbers s p 5 8) (numbers s (p + 40) 5 (n - 8)) ∙ rw (length-numbers s p 5 8))))
