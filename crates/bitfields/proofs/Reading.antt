-- Laws of the fields that a byte list has: their size, how they join, and that a part of the list has the
-- same ones.
use mathlib.Core.Path.{◌≡◌, refl, sym, ap, ◌∙◌}
use mathlib.Core.List.{List, [], ◌∷◌, ◌++◌}
use Prim.Native.Nat.{ℕ, zero, suc, ◌+◌, ◌-◌, ◌*◌, ◌/◌, ◌%◌, ◌^◌, ◌<◌, ◌≤◌}
use native.Mathlib.Nat.{add_assoc, add_comm, add-mul-div_right, add-mul-mod_self_right, add-zero, div-one, mod-eq_of_lt, mod-lt, mul_assoc, mul-suc, mul-zero, zero-add}
use native.Mathlib.Numerals.{add-one}
use native.Mathlib.Omega.{arith}
use lib.ListN.{length, replicate, take, drop, get_or, length-append, length-drop, take-append-drop}
use lib.Pow as Pow
use lib.Pow.{high, mod-mod-pow, mod-pow-add, pow-add, pow_pos, shr-shr}
use lib.Seq.{length-take-le}
use Rattle.bitfields.specs.Layout.{bits, number, widths, total_width, Fit, none, more, each, number8, Bytes, field, fields, values_from}
use Rattle.bitfields.proofs.Spelling.{bytes_drop, number8-append, number8_lt, total_width_replicate, values, values-each}

-- ---- one field

pub field_lt : (s : List ℕ) (at w : ℕ) → field s at w < 2 ^ w
unfolding field
field_lt s at w = mod-lt _ (pow_pos w)

-- the whole list is a field
pub field_all : {s : List ℕ} → Bytes s → field s 0 (8 * length s) ≡ number8 s
unfolding field
field_all {s} k =
    let e : 8 * length s - (0 + 8 * length s) ≡ 0 = omega arith in
    rw (e, div-one) (mod-eq_of_lt (number8_lt k))

-- two fields side by side are one
pub field_join : (s : List ℕ) (at w v : ℕ) → at + w + v ≤ 8 * length s → field s at (w + v) ≡ field s at w * 2 ^ v + field s (at + w) v
unfolding field
field_join s at w v h =
    let e : 8 * length s - (at + (w + v)) + v ≡ 8 * length s - (at + w) = omega arith in
    rw (mod-pow-add _ w v, shr-shr, e, add_assoc)

-- a field inside a larger one, of m bits at bit `at`
pub field-inside : (s : List ℕ) (at m from w : ℕ) → at + m ≤ 8 * length s → from + w ≤ m → field s at m / 2 ^ (m - (from + w)) % 2 ^ w ≡ field s (at + from) w
unfolding field
field-inside s at m from w h g =
    let k = m - (from + w) in
    let e : m ≡ from + w + k = omega arith in
    let d : 8 * length s - (at + (from + w + k)) + k ≡ 8 * length s - (at + from + w) = omega arith in
    rw (ap (λ (x : ℕ). number8 s / 2 ^ (8 * length s - (at + x)) % 2 ^ x) e, Pow.field _ (from + w) k, mod-mod-pow _ from w, shr-shr, d)

-- bytes behind do not matter, and neither do bytes before
pub field-append_front : (s : List ℕ) {t : List ℕ} (at w : ℕ) → Bytes t → at + w ≤ 8 * length s → field (s ++ t) at w ≡ field s at w
unfolding field
field-append_front s {t} at w k h =
    let e : 8 * (length s + length t) - (at + w) ≡ 8 * length t + (8 * length s - (at + w)) = omega arith in
    rw (length-append, e, ← shr-shr _ (8 * length t), number8-append, high (number8 s) (8 * length t) (number8_lt k))

pub field-append_back : (p s : List ℕ) (at w : ℕ) → at + w ≤ 8 * length s → field (p ++ s) (8 * length p + at) w ≡ field s at w
unfolding field
field-append_back p s at w h =
    let e = 8 * length s - (at + w) in
    let d : 8 * (length p + length s) - (8 * length p + at + w) ≡ e = omega arith in
    let l : 8 * length s ≡ at + w + e = omega arith in
    rw (length-append, d, number8-append) (shifted (number8 p) (number8 s) at w e (8 * length s) l)
  where
    shifted : (P S a w e n : ℕ) → n ≡ a + w + e → (P * 2 ^ n + S) / 2 ^ e % 2 ^ w ≡ S / 2 ^ e % 2 ^ w
    shifted P S a w e n l =
        rw (l, add_comm _ S, pow-add 2 (a + w) e, ← mul_assoc P, add-mul-div_right S _ (pow_pos e), pow-add 2 a w, ← mul_assoc P)
        (add-mul-mod_self_right (S / 2 ^ e) (P * 2 ^ a) (2 ^ w))

-- ---- a list of fields

pub fit-fields : (s : List ℕ) (at : ℕ) (ws : List ℕ) → Fit (fields s at ws)
unfolding fields
fit-fields s at [] = none
fit-fields s at (w ∷ ws) = more (field_lt s at w) (fit-fields s (at + w) ws)

pub length_fields : (s : List ℕ) (at : ℕ) (ws : List ℕ) → length (fields s at ws) ≡ length ws
unfolding fields
length_fields s at [] = refl
length_fields s at (w ∷ ws) = rw (length_fields s (at + w) ws)

pub widths-fields : (s : List ℕ) (at : ℕ) (ws : List ℕ) → widths (fields s at ws) ≡ ws
unfolding fields
widths-fields s at [] = refl
widths-fields s at (w ∷ ws) = rw (widths-fields s (at + w) ws)

pub bits-fields : (s : List ℕ) (at : ℕ) (ws : List ℕ) → bits (fields s at ws) ≡ total_width ws
unfolding fields total_width bits
bits-fields s at [] = refl
bits-fields s at (w ∷ ws) = rw (bits-fields s (at + w) ws)

-- together they spell the one field of their bits
pub number-fields : (s : List ℕ) (at : ℕ) (ws : List ℕ) → at + total_width ws ≤ 8 * length s → number (fields s at ws) ≡ field s at (total_width ws)
unfolding fields total_width number
number-fields s at [] h = omega (arith, field_lt s at 0)
number-fields s at (w ∷ ws) h =
    rw (bits-fields s (at + w) ws, number-fields s (at + w) ws (omega arith)) (sym (field_join s at w (total_width ws) (omega arith)))

pub fields-append : (s : List ℕ) (at : ℕ) (ws vs : List ℕ) → fields s at (ws ++ vs) ≡ fields s at ws ++ fields s (at + total_width ws) vs
unfolding fields total_width
fields-append s at [] vs = rw add-zero
fields-append s at (w ∷ ws) vs = rw (fields-append s (at + w) ws vs, add_assoc)

-- ---- a run of values of one width

pub length-values_from : (s : List ℕ) (at w n : ℕ) → length (values_from s at w n) ≡ n
unfolding values_from
length-values_from s at w zero = refl
length-values_from s at w (suc n) = rw (length-values_from s (at + w) w n)

pub getD_values_from : (s : List ℕ) (at w n i : ℕ) → i < n → get_or (values_from s at w n) i 0 ≡ field s (at + w * i) w
unfolding values_from
getD_values_from s at w zero i h = absurd (omega arith)
getD_values_from s at w (suc n) zero h = rw (mul-zero, add-zero)
getD_values_from s at w (suc n) (suc i) h =
    let e : at + w * suc i ≡ at + w + w * i = rw mul-suc (omega arith) in
    rw e (getD_values_from s (at + w) w n i (omega arith))

pub values_from-append : (s : List ℕ) (at w n m : ℕ) → values_from s at w (n + m) ≡ values_from s at w n ++ values_from s (at + w * n) w m
unfolding values_from
values_from-append s at w zero m = rw (mul-zero, add-zero, zero-add)
values_from-append s at w (suc n) m =
    let e : at + w * suc n ≡ at + w + w * n = rw mul-suc (omega arith) in
    let d : suc n + m ≡ suc (n + m) = omega arith in
    rw (d, e, values_from-append s (at + w) w n m)

-- one more at the end
pub values_from-suc : (s : List ℕ) (at w n : ℕ) → values_from s at w (suc n) ≡ values_from s at w n ++ (field s (at + w * n) w ∷ [])
unfolding values_from
values_from-suc s at w n = ap (values_from s at w) (sym (add-one n)) ∙ values_from-append s at w n 1

pub fields_replicate : (s : List ℕ) (at w n : ℕ) → fields s at (replicate n w) ≡ each w (values_from s at w n)
unfolding fields values_from
fields_replicate s at w zero = refl
fields_replicate s at w (suc n) = rw (fields_replicate s (at + w) w n)

pub values_from-fields : (s : List ℕ) (at w n : ℕ) → values (fields s at (replicate n w)) ≡ values_from s at w n
values_from-fields s at w n = rw (fields_replicate s at w n) (values-each w (values_from s at w n))

-- ---- a part of a byte list

-- t has, in its first m bits, the fields of s from bit d on; then it has the same lists and runs of them
module _ (s t : List ℕ) (d m : ℕ) (same : (at w : ℕ) → at + w ≤ m → field t at w ≡ field s (d + at) w) where
  pub fields_same : (at : ℕ) (ws : List ℕ) → at + total_width ws ≤ m → fields t at ws ≡ fields s (d + at) ws
  unfolding fields total_width
  fields_same at [] h = refl
  fields_same at (w ∷ ws) h = rw (same at w (omega arith), fields_same (at + w) ws (omega arith), add_assoc)

  pub values_from_same : (at w n : ℕ) → at + w * n ≤ m → values_from t at w n ≡ values_from s (d + at) w n
  values_from_same at w n h =
      rw (← values_from-fields t at w n, ← values_from-fields s (d + at) w n)
      (ap values (fields_same at (replicate n w) (rw (total_width_replicate w n) h)))

-- all bytes from byte k on
pub field-drop : (s : List ℕ) (k at w : ℕ) → 8 * k + (at + w) ≤ 8 * length s → field (drop k s) at w ≡ field s (8 * k + at) w
field-drop s k at w h =
    let l : at + w ≤ 8 * length (drop k s) = rw length-drop (omega arith) in
    sym (rw (take-append-drop k s, length-take-le k s (omega arith)) at (field-append_back (take k s) (drop k s) at w l))

pub values_from-drop : (s : List ℕ) (k at w n : ℕ) → 8 * k + (at + w * n) ≤ 8 * length s → values_from (drop k s) at w n ≡ values_from s (8 * k + at) w n
values_from-drop s k at w n h =
    values_from_same s (drop k s) (8 * k) (at + w * n) (λ a v g. field-drop s k a v (omega arith)) at w n (omega arith)

-- the m bytes from byte k on
pub field_part : {s : List ℕ} (k m at w : ℕ) → Bytes s → k + m ≤ length s → at + w ≤ 8 * m → field (take m (drop k s)) at w ≡ field s (8 * k + at) w
field_part {s} k m at w b g h =
    let l : length (take m (drop k s)) ≡ m = length-take-le m (drop k s) (rw length-drop (omega arith)) in
    let f = field-append_front (take m (drop k s)) at w (bytes_drop m (bytes_drop k b)) (rw l h) in
    sym (rw (take-append-drop m (drop k s)) at f) ∙ field-drop s k at w (omega arith)
