-- The scale from the smallest power of 2 that the largest |B| does not pass: the laws that the proofs of the
-- code cite.
use mathlib.Core.Path.{◌≡◌, refl, sym, ap, ◌∙◌}
use mathlib.Core.Bool.{Bool, true, false, cond, true≢false}
use mathlib.Core.List.{List}
use mathlib.Core.Logic.{◌⊎◌, inl, inr}
use Prim.Native.Nat.{ℕ, zero, suc, ◌+◌, ◌*◌, ◌-◌, ◌^◌, ◌<◌, ◌≤◌}
use native.Mathlib.Nat.{pow-zero, pow-suc, le_refl, le_trans}
use native.Mathlib.Numerals.{add-one}
use native.Mathlib.Omega.{arith}
use borrow.Author.Tests.{lt-ltb, le-ltb, ltb-true, ltb-false}
use lib.Count.{count_leading_zeros, leading_length}
use lib.Dec.{ltb}
use lib.IntN.{ℤ, nat_abs}
use lib.Signed.{mag}
use mir.Syntax.{w64}
use mir.Val.{to_z, of_z}
use mir.Facts.{to_z-of_z}
use lib.Pow.{pow_mono, pow-lt, pow-add}
use Rattle.integers.specs.Flat.{at}
use Rattle.integers.proofs.Maximum.{le_or_lt, below_suc}
use Rattle.integers.proofs.Power.{pow-pow}
use Rattle.job.specs.Header.{digit_bits, Limits}
use Rattle.job.specs.Rules.{inner_unit}
use Rattle.job.specs.declared.Header.{Header}
use Rattle.scale.specs.Scale.{fits, scale}
use Rattle.scale.specs.Inner.{peak, larger, Exponent}
use Rattle.scale.proofs.Smallest.{fits_exactly}

-- ---- the largest

pub peak-zero : (B : ℕ → ℤ) → peak 0 B ≡ 0
unfolding peak
peak-zero B = refl

peak-suc : (n : ℕ) (B : ℕ → ℤ) → peak (suc n) B ≡ larger (peak n B) (nat_abs (B n))
unfolding peak
peak-suc n B = refl

larger-left : (a b : ℕ) → a ≤ larger a b
larger-left a b = by_test (ltb a b) refl
  where
    by_test : (t : Bool) → ltb a b ≡ t → a ≤ cond t b a
    by_test true e = omega (arith, ltb-true a b e)
    by_test false e = le_refl a

larger_right : (a b : ℕ) → b ≤ larger a b
larger_right a b = by_test (ltb a b) refl
  where
    by_test : (t : Bool) → ltb a b ≡ t → b ≤ cond t b a
    by_test true e = le_refl b
    by_test false e = ltb-false a b e

larger_le : (a b k : ℕ) → a ≤ k → b ≤ k → larger a b ≤ k
larger_le a b k h l = by_test (ltb a b)
  where
    by_test : (t : Bool) → cond t b a ≤ k
    by_test true = l
    by_test false = h

peak-each : (n : ℕ) (B : ℕ → ℤ) (i : ℕ) → i < n → nat_abs (B i) ≤ peak n B
peak-each zero B i l = absurd (omega arith)
peak-each (suc n) B i l =
    rw (peak-suc n B)
    (below_suc (λ i. nat_abs (B i) ≤ larger (peak n B) (nat_abs (B n))) n (larger_right (peak n B) (nat_abs (B n)))
    (λ i l. le_trans (peak-each n B i l) (larger-left (peak n B) (nat_abs (B n)))) i l)

pub peak_le : (n : ℕ) (B : ℕ → ℤ) (k : ℕ) → ((i : ℕ) → i < n → nat_abs (B i) ≤ k) → peak n B ≤ k
peak_le zero B k f = rw (peak-zero B) (omega arith)
peak_le (suc n) B k f = rw (peak-suc n B) (larger_le (peak n B) (nat_abs (B n)) k (peak_le n B k (λ i l. f i (omega arith))) (f n (omega arith)))

-- one row more, whose entry the machine has read and taken the magnitude a of
module _ (i : ℕ) (z : List ℤ) (top a : ℕ) (e : top ≡ peak i (at z)) (f : mag (at z i) < 2 ^ 63) (q : a ≡ nat_abs (to_z w64 (of_z w64 (at z i)))) where
  read_is : a ≡ nat_abs (at z i)
  read_is = rw (to_z-of_z {w = w64} {z = at z i} (record { sfits = f })) at q

  pub peak_raised : (next : ℕ) → top < a → next ≡ a → next ≡ peak (i + 1) (at z)
  peak_raised next l n = n ∙ rw (add-one, peak-suc i (at z), ← e, ← read_is, lt-ltb top a l) refl

  pub peak-kept : (next : ℕ) → a ≤ top → next ≡ top → next ≡ peak (i + 1) (at z)
  peak-kept next l n = n ∙ rw (add-one, peak-suc i (at z), ← e, ← read_is, le-ltb top a l) refl

-- ---- the exponent, from the leading zeros

module _ (a m : ℕ) (above : a < 2 ^ m) (close : 2 ^ m ≤ 2 * a + 1) where
  -- a is a power of 2
  exponent_exact : 2 * a ≡ 2 ^ m → Exponent a (m - 1)
  exponent_exact e = by_length m e
    where
      by_length : (m : ℕ) → 2 * a ≡ 2 ^ m → Exponent a (m - 1)
      by_length zero e = absurd (omega (arith, pow-zero 2))
      by_length (suc k) e =
          let q : a ≡ 2 ^ k = omega (arith, pow-suc 2 k) in
          let r : suc k - 1 ≡ k = omega arith in
          rw r (record { holds = omega arith; least = λ t l. least k t q l (le_or_lt k t) })
        where
          least : (k t : ℕ) → a ≡ 2 ^ k → a ≤ 2 ^ t → (k ≤ t) ⊎ (t < k) → k ≤ t
          least k t q l (inl g) = g
          least k t q l (inr g) = absurd (omega (arith, pow-lt g))

  exponent_between : (2 * a ≡ 2 ^ m → ⊥) → Exponent a m
  exponent_between ne = record { holds = omega arith; least = λ t l. least t l (le_or_lt m t) }
    where
      odd : (m : ℕ) → 1 ≤ m → 2 ^ m ≡ 2 * a + 1 → ⊥
      odd zero l e = omega arith
      odd (suc k) l e = omega (arith, pow-suc 2 k)

      -- 2a and 2^m are next to each other
      near : (x y : ℕ) → x ≤ y → y ≤ x + 1 → (x ≡ y → ⊥) → y ≡ x + 1
      near x y h k n = by_case (le_or_lt y x)
        where
          by_case : (y ≤ x) ⊎ (x < y) → y ≡ x + 1
          by_case (inl g) = absurd (n (omega arith))
          by_case (inr g) = omega arith

      least : (t : ℕ) → a ≤ 2 ^ t → (m ≤ t) ⊎ (t < m) → m ≤ t
      least t l (inl g) = g
      least t l (inr g) =
          let p : 2 ^ suc t ≤ 2 ^ m = pow_mono {i = suc t} {j = m} g in
          absurd (odd m (omega arith) (near (2 * a) (2 ^ m) (omega (arith, pow-suc 2 t)) close ne))

-- as the machine has it: the length of a in bits, and the power of 2 that is of that length
module _ (a : ℕ) (small : a ≤ 2 ^ 41) where
  abbrev len : ℕ
  len = 64 - count_leading_zeros 64 a

  length_of : (a < 2 ^ len) × (2 ^ len ≤ 2 * a + 1)
  length_of =
      let s = leading_length 64 a (omega arith) in
      let q : len ≡ s.0 = omega (arith, s.1) in
      rw q (s.2, s.3)

  pub length_most : len ≤ 42
  length_most = by_case len length_of.1 (le_or_lt len 42)
    where
      by_case : (l : ℕ) → 2 ^ l ≤ 2 * a + 1 → (l ≤ 42) ⊎ (42 < l) → l ≤ 42
      by_case l k (inl g) = g
      by_case l k (inr g) = absurd (omega (arith, pow_mono {i = 43} {j = l} g))

  pub exact_some : 2 * a ≡ 2 ^ len → 1 ≤ len
  exact_some e = some len e
    where
      some : (l : ℕ) → 2 * a ≡ 2 ^ l → 1 ≤ l
      some zero e = absurd (omega (arith, pow-zero 2))
      some (suc l) e = omega arith

  pub exact_is : 2 * a ≡ 2 ^ len → Exponent a (len - 1)
  exact_is e = exponent_exact a len length_of.0 length_of.1 e

  pub between_is : (2 * a ≡ 2 ^ len → ⊥) → Exponent a len
  between_is n = exponent_between a len length_of.0 length_of.1 n

-- ---- the scale, from the exponent

module _ (h : Header) (B : ℕ → ℤ) (e : ℕ) (least_one : 1 ≤ h.f) (x : Exponent (peak h.n B) e) where
  abbrev bits : ℕ → ℕ
  bits s = h.f + s * digit_bits h.code

  room_is : (s : ℕ) → inner_unit h s ≡ 2 ^ bits s
  room_is s = rw (pow-pow 2 (digit_bits h.code) s) (sym (pow-add 2 h.f (s * digit_bits h.code)))

  below_fits : (s : ℕ) → e < bits s → (i : ℕ) → i < h.n → 2 * nat_abs (B i) ≤ inner_unit h s
  below_fits s l i k = rw (room_is s) (omega (arith, peak-each h.n B i k, x.holds, pow-suc 2 e, pow_mono {i = suc e} {j = bits s} l))

  fits_below : (s : ℕ) → ((i : ℕ) → i < h.n → 2 * nat_abs (B i) ≤ inner_unit h s) → e < bits s
  fits_below s f =
      let q : suc (bits s - 1) ≡ bits s = omega arith in
      let half : 2 ^ bits s ≡ 2 ^ (bits s - 1) * 2 = sym (ap (λ (k : ℕ). 2 ^ k) q) ∙ pow-suc 2 (bits s - 1) in
      let m = x.least (bits s - 1) (peak_le h.n B (2 ^ (bits s - 1)) (λ i k. omega (arith, rw (room_is s) at (f i k)))) in
      omega arith

  fits_is : (s : ℕ) → fits h B s ≡ ltb e (bits s)
  fits_is s = by_test (fits h B s) refl
    where
      by_test : (b : Bool) → fits h B s ≡ b → b ≡ ltb e (bits s)
      by_test true t = sym (lt-ltb e (bits s) (fits_below s ((fits_exactly h B s).0 t)))
      by_test false t = sym (le-ltb e (bits s) (by_case (le_or_lt (bits s) e)))
        where
          by_case : (bits s ≤ e) ⊎ (e < bits s) → bits s ≤ e
          by_case (inl g) = g
          by_case (inr g) = absurd (true≢false (sym ((fits_exactly h B s).1 (below_fits s g)) ∙ t))

  bits_0 : bits 0 ≡ h.f
  bits_0 = omega arith

  bits_1 : bits 1 ≡ h.f + (h.code + 1)
  bits_1 = omega arith

  scale_is : scale h B ≡ cond (ltb e h.f) 0 (cond (ltb e (h.f + (h.code + 1))) 1 2)
  scale_is = rw (fits_is 0, fits_is 1, bits_0, bits_1) refl

-- by the code's two tests
module _ (h : Header) (B : ℕ → ℤ) (a e : ℕ) (l : Limits h) (q : a ≡ peak h.n B) (x : Exponent a e) where
  found : scale h B ≡ cond (ltb e h.f) 0 (cond (ltb e (h.f + (h.code + 1))) 1 2)
  found = scale_is h B e (omega (arith, l.fraction_least)) (rw (← q) x)

  pub scale_0 : e < h.f → 0 ≡ scale h B
  scale_0 k = sym (found ∙ rw (lt-ltb e h.f k) refl)

  pub scale_1 : h.f ≤ e → e < h.f + (h.code + 1) → 1 ≡ scale h B
  scale_1 j k = sym (found ∙ rw (le-ltb e h.f j, lt-ltb e (h.f + (h.code + 1)) k) refl)

  pub scale_2 : h.f ≤ e → h.f + (h.code + 1) ≤ e → 2 ≡ scale h B
  scale_2 j k = sym (found ∙ rw (le-ltb e h.f j, le-ltb e (h.f + (h.code + 1)) k) refl)
