-- Eight fields of 5 bits as eight bytes: the laws of `eight_bytes`, over numbers. Assumes nothing.
use mathlib.Core.Path.{◌≡◌, refl, sym, ap, ◌∙◌}
use Prim.Native.Nat.{ℕ, zero, suc, ◌+◌, ◌-◌, ◌*◌, ◌/◌, ◌%◌, ◌^◌, ◌<◌}
use native.Mathlib.Nat.{div-one}
use native.Mathlib.Omega.{arith}
use lib.Bits.{bit_and, and_block, and_high, and_le_r, and_mask}
use lib.Pow.{shr-shr}
use Rattle.trace.specs.Inner.{digit_byte, Bytewise}

-- ---- a mask over places of a fixed width

mask_5 : (s : ℕ) → s < 32 → bit_and s 31 ≡ s
mask_5 s h = and_mask s 5 ∙ omega arith

mask_sign : (t : ℕ) → t < 32 → bit_and t 16 ≡ t / 16 * 16
mask_sign t h = and_high t 1 4 ∙ omega arith

-- the last field of 16 bits, with another's bits before it
mask_lane : (a m s t : ℕ) → s < 32 → t < 32 → bit_and (a * 65536 + (t * 2048 + s)) (m * 65536 + 31) ≡ bit_and a m * 65536 + s
mask_lane a m s t h g =
    let e : (t * 2048 + s) % 32 ≡ s = omega arith in
    and_block 16 a m (t * 2048 + s) 31 (omega arith) (omega arith) ∙ rw (and_mask (t * 2048 + s) 5, e)

mask_byte : (a m t : ℕ) → t < 32 → bit_and (a * 256 + t) (m * 256 + 16) ≡ bit_and a m * 256 + t / 16 * 16
mask_byte a m t h = and_block 8 a m t 16 (omega arith) (omega arith) ∙ rw (mask_sign t h)

-- ---- halves, quarters, fields, signs

-- eight digits in their bytes
abbrev bytes : ℕ → ℕ → ℕ → ℕ → ℕ → ℕ → ℕ → ℕ → ℕ
bytes a b c d e f g h =
    ((((((digit_byte a * 256 + digit_byte b) * 256 + digit_byte c) * 256 + digit_byte d) * 256 + digit_byte e) * 256 + digit_byte f) * 256 + digit_byte g) * 256 + digit_byte h

apart_halves : (u a b : ℕ) → b < 1048576 → u ≡ a * 1048576 + b → u + u / 1048576 * 4293918720 ≡ a * 4294967296 + b
apart_halves u a b h e = omega arith

module _ (a b c d : ℕ) (ha : a < 1024) (hb : b < 1024) (hc : c < 1024) (hd : d < 1024) where
  quarters_mask : (v : ℕ) → v ≡ (a * 1024 + b) * 4294967296 + (c * 1024 + d) → bit_and (v / 1024) 4393751544831 ≡ a * 4294967296 + c
  quarters_mask v e =
      let q : v / 1024 ≡ a * 4294967296 + (b * 4194304 + c) = omega arith in
      let m : a % 1024 ≡ a = omega arith in
      let n : (b * 4194304 + c) % 1024 ≡ c = omega arith in
      rw q (and_block 32 a 1023 (b * 4194304 + c) 1023 (omega arith) (omega arith) ∙ rw (and_mask a 10, and_mask (b * 4194304 + c) 10, m, n))

  apart_quarters : (v : ℕ) → v ≡ (a * 1024 + b) * 4294967296 + (c * 1024 + d)
      → v + bit_and (v / 1024) 4393751544831 * 64512 ≡ ((a * 65536 + b) * 65536 + c) * 65536 + d
  apart_quarters v e = rw (quarters_mask v e, e) (omega arith)

module _ (a b c d e f g h : ℕ) (ha : a < 32) (hb : b < 32) (hc : c < 32) (hd : d < 32) (he : e < 32) (hf : f < 32) (hg : g < 32) (hh : h < 32) where
  fields_mask : (v : ℕ) → v ≡ (((a * 32 + b) * 65536 + (c * 32 + d)) * 65536 + (e * 32 + f)) * 65536 + (g * 32 + h)
      → bit_and (v / 32) 8725857424048159 ≡ ((a * 65536 + c) * 65536 + e) * 65536 + g
  fields_mask v q =
      let r : v / 32 ≡ ((a * 65536 + (b * 2048 + c)) * 65536 + (d * 2048 + e)) * 65536 + (f * 2048 + g) = omega arith in
      rw r
      (mask_lane ((a * 65536 + (b * 2048 + c)) * 65536 + (d * 2048 + e)) 133146017823 g f hg hf
      ∙ ap (λ (x : ℕ). x * 65536 + g)
      (mask_lane (a * 65536 + (b * 2048 + c)) 2031647 e d he hd ∙ ap (λ (x : ℕ). x * 65536 + e) (mask_lane a 31 c b hc hb ∙ ap (λ (x : ℕ). x * 65536 + c) (mask_5 a ha))))

  apart_fields : (v : ℕ) → v ≡ (((a * 32 + b) * 65536 + (c * 32 + d)) * 65536 + (e * 32 + f)) * 65536 + (g * 32 + h)
      → v + bit_and (v / 32) 8725857424048159 * 224 ≡ ((((((a * 256 + b) * 256 + c) * 256 + d) * 256 + e) * 256 + f) * 256 + g) * 256 + h
  apart_fields v q = rw (fields_mask v q, q) (omega arith)

  signs_mask : (v : ℕ) → v ≡ ((((((a * 256 + b) * 256 + c) * 256 + d) * 256 + e) * 256 + f) * 256 + g) * 256 + h
      → bit_and v 1157442765409226768
      ≡ ((((((a / 16 * 16 * 256 + b / 16 * 16) * 256 + c / 16 * 16) * 256 + d / 16 * 16) * 256 + e / 16 * 16) * 256 + f / 16 * 16) * 256 + g / 16 * 16) * 256 + h / 16 * 16
  signs_mask v q =
      rw q
      (mask_byte ((((((a * 256 + b) * 256 + c) * 256 + d) * 256 + e) * 256 + f) * 256 + g) 4521260802379792 h hh
      ∙ ap (λ (x : ℕ). x * 256 + h / 16 * 16) (mask_byte (((((a * 256 + b) * 256 + c) * 256 + d) * 256 + e) * 256 + f) 17661175009296 g hg
      ∙ ap (λ (x : ℕ). x * 256 + g / 16 * 16) (mask_byte ((((a * 256 + b) * 256 + c) * 256 + d) * 256 + e) 68988964880 f hf
      ∙ ap (λ (x : ℕ). x * 256 + f / 16 * 16) (mask_byte (((a * 256 + b) * 256 + c) * 256 + d) 269488144 e he
      ∙ ap (λ (x : ℕ). x * 256 + e / 16 * 16) (mask_byte ((a * 256 + b) * 256 + c) 1052688 d hd
      ∙ ap (λ (x : ℕ). x * 256 + d / 16 * 16) (mask_byte (a * 256 + b) 4112 c hc
      ∙ ap (λ (x : ℕ). x * 256 + c / 16 * 16) (mask_byte a 16 b hb
      ∙ ap (λ (x : ℕ). x * 256 + b / 16 * 16) (mask_sign a ha))))))))

  signs : (v : ℕ) → v ≡ ((((((a * 256 + b) * 256 + c) * 256 + d) * 256 + e) * 256 + f) * 256 + g) * 256 + h → v + bit_and v 1157442765409226768 * 14 ≡ bytes a b c d e f g h
  signs v q = rw (signs_mask v q, q) (omega arith)

-- ---- the fields of a number, and the bytes of another

spelled : (u p q r s t v w : ℕ) → p ≡ u / 32 → q ≡ p / 32 → r ≡ q / 32 → s ≡ r / 32 → t ≡ s / 32 → v ≡ t / 32 → w ≡ v / 32
    → u ≡ ((((((w * 32 + v % 32) * 32 + t % 32) * 32 + s % 32) * 32 + r % 32) * 32 + q % 32) * 32 + p % 32) * 32 + u % 32
spelled u p q r s t v w a b c d e f g = omega arith

module _ (y a b c d e f g h : ℕ) (ha : a < 256) (hb : b < 256) (hc : c < 256) (hd : d < 256) (he : e < 256) (hf : f < 256) (hg : g < 256) (hh : h < 256)
    (q : y ≡ ((((((a * 256 + b) * 256 + c) * 256 + d) * 256 + e) * 256 + f) * 256 + g) * 256 + h) where
  all_lt : y < 2 ^ 64
  all_lt = omega arith

  byte_0 : y / 72057594037927936 % 256 ≡ a
  byte_0 = omega arith

  byte_1 : y / 281474976710656 % 256 ≡ b
  byte_1 = omega arith

  byte_2 : y / 1099511627776 % 256 ≡ c
  byte_2 = omega arith

  byte_3 : y / 4294967296 % 256 ≡ d
  byte_3 = omega arith

  byte_4 : y / 16777216 % 256 ≡ e
  byte_4 = omega arith

  byte_5 : y / 65536 % 256 ≡ f
  byte_5 = omega arith

  byte_6 : y / 256 % 256 ≡ g
  byte_6 = omega arith

  byte_7 : y / 1 % 256 ≡ h
  byte_7 = omega arith

-- ---- the code's numbers

abbrev halves : ℕ → ℕ
halves u = u + u / 1048576 * 4293918720

abbrev quarters : ℕ → ℕ
quarters u = halves u + bit_and (halves u / 1024) 4393751544831 * 64512

abbrev singles : ℕ → ℕ
singles u = quarters u + bit_and (quarters u / 32) 8725857424048159 * 224

abbrev signed : ℕ → ℕ
signed u = singles u + bit_and (singles u) 1157442765409226768 * 14

module _ (u : ℕ) (l : u < 2 ^ 40) where
  halves_lt : halves u < 2 ^ 53
  halves_lt = omega arith

  pub quarters_times : bit_and (halves u / 1024) 4393751544831 * 64512 < 2 ^ 59
  quarters_times = omega (arith, and_le_r (halves u / 1024) 4393751544831)

  pub quarters_lt : quarters u < 2 ^ 60
  quarters_lt = omega (arith, halves_lt, quarters_times)

  pub singles_times : bit_and (quarters u / 32) 8725857424048159 * 224 < 2 ^ 61
  singles_times = omega (arith, and_le_r (quarters u / 32) 8725857424048159)

  pub singles_lt : singles u < 2 ^ 62
  singles_lt = omega (arith, quarters_lt, singles_times)

  pub signed_times : bit_and (singles u) 1157442765409226768 * 14 < 2 ^ 64
  signed_times = omega (arith, and_le_r (singles u) 1157442765409226768)

  module _ (p q r s t v w : ℕ) (ep : p ≡ u / 32) (eq : q ≡ p / 32) (er : r ≡ q / 32) (es : s ≡ r / 32) (et : t ≡ s / 32) (ev : v ≡ t / 32) (ew : w ≡ v / 32) where
    fields_are : u ≡ ((w * 32 + v % 32) * 1024 + (t % 32 * 32 + s % 32)) * 1048576 + ((r % 32 * 32 + q % 32) * 1024 + (p % 32 * 32 + u % 32))
    fields_are = spelled u p q r s t v w ep eq er es et ev ew ∙ omega arith

    first_lt : w < 32
    first_lt = omega arith

    signed_are : signed u ≡ bytes w (v % 32) (t % 32) (s % 32) (r % 32) (q % 32) (p % 32) (u % 32)
    signed_are =
        signs w (v % 32) (t % 32) (s % 32) (r % 32) (q % 32) (p % 32) (u % 32) first_lt (omega arith) (omega arith) (omega arith) (omega arith) (omega arith) (omega arith) (omega arith) (singles u)
        (apart_fields w (v % 32) (t % 32) (s % 32) (r % 32) (q % 32) (p % 32) (u % 32) first_lt (omega arith) (omega arith) (omega arith) (omega arith) (omega arith) (omega arith) (omega arith) (quarters u)
        (apart_quarters (w * 32 + v % 32) (t % 32 * 32 + s % 32) (r % 32 * 32 + q % 32) (p % 32 * 32 + u % 32) (omega (arith, first_lt)) (omega arith) (omega arith) (omega arith) (halves u)
        (apart_halves u ((w * 32 + v % 32) * 1024 + (t % 32 * 32 + s % 32)) ((r % 32 * 32 + q % 32) * 1024 + (p % 32 * 32 + u % 32)) (omega arith) fields_are)))

  abbrev field : ℕ → ℕ
  field k = u / 2 ^ k % 32

  signed_is : signed u ≡ bytes (field 35) (field 30) (field 25) (field 20) (field 15) (field 10) (field 5) (field 0)
  signed_is =
      let o : u / 2 ^ 35 % 32 ≡ u / 2 ^ 35 = omega arith in
      let z : u / 1 ≡ u = div-one u in
      rw (o, z)
      (signed_are (u / 2 ^ 5) (u / 2 ^ 10) (u / 2 ^ 15) (u / 2 ^ 20) (u / 2 ^ 25) (u / 2 ^ 30) (u / 2 ^ 35) refl
      (sym (shr-shr u 5 5)) (sym (shr-shr u 10 5)) (sym (shr-shr u 15 5)) (sym (shr-shr u 20 5)) (sym (shr-shr u 25 5)) (sym (shr-shr u 30 5)))

  byte_lt : (k : ℕ) → digit_byte (field k) < 256
  byte_lt k = let h : field k < 32 = omega arith in omega arith

  pub signed_lt : signed u < 2 ^ 64
  signed_lt = all_lt (signed u) _ _ _ _ _ _ _ _ (byte_lt 35) (byte_lt 30) (byte_lt 25) (byte_lt 20) (byte_lt 15) (byte_lt 10) (byte_lt 5) (byte_lt 0) signed_is

  each : (x : ℕ) → x < 8 → signed u / 2 ^ (8 * (7 - x)) % 256 ≡ digit_byte (u / 2 ^ (5 * (7 - x)) % 32)
  each zero h = byte_0 (signed u) _ _ _ _ _ _ _ _ (byte_lt 35) (byte_lt 30) (byte_lt 25) (byte_lt 20) (byte_lt 15) (byte_lt 10) (byte_lt 5) (byte_lt 0) signed_is
  each (suc zero) h = byte_1 (signed u) _ _ _ _ _ _ _ _ (byte_lt 35) (byte_lt 30) (byte_lt 25) (byte_lt 20) (byte_lt 15) (byte_lt 10) (byte_lt 5) (byte_lt 0) signed_is
  each (suc (suc zero)) h = byte_2 (signed u) _ _ _ _ _ _ _ _ (byte_lt 35) (byte_lt 30) (byte_lt 25) (byte_lt 20) (byte_lt 15) (byte_lt 10) (byte_lt 5) (byte_lt 0) signed_is
  each (suc (suc (suc zero))) h = byte_3 (signed u) _ _ _ _ _ _ _ _ (byte_lt 35) (byte_lt 30) (byte_lt 25) (byte_lt 20) (byte_lt 15) (byte_lt 10) (byte_lt 5) (byte_lt 0) signed_is
  each (suc (suc (suc (suc zero)))) h = byte_4 (signed u) _ _ _ _ _ _ _ _ (byte_lt 35) (byte_lt 30) (byte_lt 25) (byte_lt 20) (byte_lt 15) (byte_lt 10) (byte_lt 5) (byte_lt 0) signed_is
  each (suc (suc (suc (suc (suc zero))))) h = byte_5 (signed u) _ _ _ _ _ _ _ _ (byte_lt 35) (byte_lt 30) (byte_lt 25) (byte_lt 20) (byte_lt 15) (byte_lt 10) (byte_lt 5) (byte_lt 0) signed_is
  each (suc (suc (suc (suc (suc (suc zero)))))) h = byte_6 (signed u) _ _ _ _ _ _ _ _ (byte_lt 35) (byte_lt 30) (byte_lt 25) (byte_lt 20) (byte_lt 15) (byte_lt 10) (byte_lt 5) (byte_lt 0) signed_is
  each (suc (suc (suc (suc (suc (suc (suc zero))))))) h = byte_7 (signed u) _ _ _ _ _ _ _ _ (byte_lt 35) (byte_lt 30) (byte_lt 25) (byte_lt 20) (byte_lt 15) (byte_lt 10) (byte_lt 5) (byte_lt 0) signed_is
  each (suc (suc (suc (suc (suc (suc (suc (suc x)))))))) h = absurd (omega arith)

  pub signed_bytewise : Bytewise u (signed u)
  signed_bytewise = record { each_byte = each }

-- one of the bytes: its last 5 bits are the field, and it is a digit's byte
module _ {u y : ℕ} (b : Bytewise u y) (x : ℕ) (h : x < 8) where
  pub byte-field : y / 2 ^ (8 * (7 - x)) % 256 % 32 ≡ u / 2 ^ (5 * (7 - x)) % 32
  byte-field = let e = b.each_byte x h in last (u / 2 ^ (5 * (7 - x)) % 32) (y / 2 ^ (8 * (7 - x)) % 256) (omega arith) e
    where
      last : (t v : ℕ) → t < 32 → v ≡ digit_byte t → v % 32 ≡ t
      last t v l e = omega arith

  pub byte-digit : y / 2 ^ (8 * (7 - x)) % 256 ≡ digit_byte (y / 2 ^ (8 * (7 - x)) % 256 % 32)
  byte-digit = rw byte-field (b.each_byte x h)
