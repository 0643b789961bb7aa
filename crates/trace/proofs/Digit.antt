-- One digit and its 5 bits, as the machine has them: the laws of `to_digit` and `to_bits`. Assumes nothing.
use mathlib.Core.Path.{◌≡◌, refl, ap, ◌∙◌}
use mathlib.Core.Logic.{◌⊎◌, inl, inr}
use Prim.Native.Nat.{ℕ, suc, ◌+◌, ◌-◌, ◌/◌, ◌%◌, ◌<◌, ◌≤◌}
use native.Mathlib.Omega.{arith}
use borrow.Author.Tests.{le-ltb, lt-ltb}
use lib.IntN.{ℤ, pos, negsuc, nat_abs, ◌+ℤ◌, ◌-ℤ◌}
use lib.Signed.{mag, ◌≤ℤ◌}
use mir.Syntax.{w8, w64}
use mir.Val.{SFits, to_z, of_z}
use Rattle.integers.specs.Sum.{Within}
use Rattle.integers.proofs.Machine.{known, machs, machine_eq, machine_fits, i8_kept}
use Rattle.integers.proofs.Maximum.{le_or_lt}
use Rattle.integers.proofs.Order.{parts→le}
use Rattle.bitfields.specs.Twos as Twos
use Rattle.bitfields.specs.Twos.{encode, decode}
use Rattle.trace.specs.Inner.{digit_byte}
use Rattle.bitfields.proofs.Twos.{decode-fits, decode_low, decode_high}

-- a digit that an array holds is what its bits stand for
pub fit-digit-kept : (z : ℤ) → Twos.Fits 5 z → to_z w8 (of_z w8 z) ≡ z
fit-digit-kept z h = i8_kept z (omega (arith, h.size))

-- ---- from a byte

module _ (u t : ℕ) (h : t < 32) (e : u ≡ digit_byte t) where
  lowered : pos ((u + 128) % 256) -ℤ pos 128 ≡ decode 5 t
  lowered = by_half (le_or_lt 16 t)
    where
      by_half : (16 ≤ t) ⊎ (t < 16) → pos ((u + 128) % 256) -ℤ pos 128 ≡ decode 5 t
      by_half (inl l) =
          let o : t / 16 ≡ 1 = omega arith in
          let w : u ≡ t + 224 = omega arith in
          let k : (u + 128) % 256 ≡ t + 96 = omega arith in
          let d : 128 - suc (t + 96) ≡ 32 - suc t = omega arith in
          rw (decode_high 5 t (omega arith), k, lt-ltb (t + 96) 128 (omega arith), d)
      by_half (inr l) =
          let o : t / 16 ≡ 0 = omega arith in
          let w : u ≡ t = omega arith in
          let k : (u + 128) % 256 ≡ t + 128 = omega arith in
          let d : t + 128 - 128 ≡ t = omega arith in
          rw (decode_low 5 t (omega arith), k, le-ltb (t + 128) 128 (omega arith), d)

  digit-within : Within (decode 5 t) 127
  digit-within = within (decode 5 t) (decode-fits 5 t (omega arith) h)
    where
      within : (z : ℤ) → Twos.Fits 5 z → Within z 127
      within (pos n) k = record { abs = omega (arith, k.size) }
      within (negsuc n) k = record { abs = omega (arith, k.size) }

  module _ (x : ℤ) (f : x ≡ pos ((u + 128) % 256)) where
    pub lowered_fits : SFits w64 (to_z w64 (of_z w64 x) -ℤ pos 128)
    lowered_fits = let m = known x (pos ((u + 128) % 256)) 255 f (omega arith) in machine_fits (search machs depth 9) tt

    pub lowered_is : to_z w64 (of_z w64 (to_z w64 (of_z w64 x) -ℤ pos 128)) ≡ decode 5 t
    lowered_is = let m = known x (pos ((u + 128) % 256)) 255 f (omega arith) in machine_eq (search machs depth 9) tt lowered

    pub lowered_within : Within (to_z w64 (of_z w64 (to_z w64 (of_z w64 x) -ℤ pos 128))) 127
    lowered_within = rw lowered_is digit-within

-- ---- to 5 bits

-- the number and 128, which is not negative
abbrev pub digit_raised : ℤ → ℕ
digit_raised (pos n) = n + 128
digit_raised (negsuc n) = 128 - suc n

raised_is : (z : ℤ) → mag z < 128 → z +ℤ pos 128 ≡ pos (digit_raised z)
raised_is (pos n) h = refl
raised_is (negsuc n) h = rw (le-ltb 128 (suc n) (omega arith))

small : (z : ℤ) → mag z < 128 → nat_abs z ≤ 128
small (pos n) h = omega arith
small (negsuc n) h = omega arith

bits_are : (z : ℤ) → Twos.Fits 5 z → digit_raised z % 32 ≡ encode 5 z
unfolding encode
bits_are (pos n) h = omega (arith, h.size)
bits_are (negsuc n) h = omega (arith, h.size)

module _ (z x : ℤ) (h : mag z < 128) (e : x ≡ z) where
  pub raised_fits : SFits w64 (to_z w64 (of_z w64 x) +ℤ pos 128)
  raised_fits = let m = known x z 128 e (small z h) in machine_fits (search machs depth 9) tt

  raised_clean : to_z w64 (of_z w64 (to_z w64 (of_z w64 x) +ℤ pos 128)) ≡ pos (digit_raised z)
  raised_clean = let m = known x z 128 e (small z h) in machine_eq (search machs depth 9) tt (raised_is z h)

  pub raised_least : pos 0 ≤ℤ to_z w64 (of_z w64 (to_z w64 (of_z w64 x) +ℤ pos 128))
  raised_least = rw raised_clean (parts→le (pos 0) (pos (digit_raised z)) (omega arith))

  pub digit_bits_are : (u : ℕ) → u ≡ nat_abs (to_z w64 (of_z w64 (to_z w64 (of_z w64 x) +ℤ pos 128))) → (u % 32 < 32) × (Twos.Fits 5 z → u % 32 ≡ encode 5 z)
  digit_bits_are u g = let f : u ≡ digit_raised z = g ∙ ap nat_abs raised_clean in (omega arith, λ k. rw f (bits_are z k))
