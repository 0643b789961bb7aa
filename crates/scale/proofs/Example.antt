-- The scale at f 4, computed: 1/2 fits the scale 0 and 9/16 does not; 1 fits the scale 1 and 17/16 does
-- not; 2 has the scale 2 in radix 2 and 1 in radix 4. And what the statement says of 9/16 and 1/2, in
-- numbers.
use mathlib.Core.Path.{◌≡◌, refl}
use Prim.Native.Nat.{ℕ, zero, suc, ◌^◌, ◌*◌, ◌<◌, ◌≤◌}
use native.Mathlib.Omega.{arith}
use lib.IntN.{ℤ, pos, negsuc, nat_abs}
use Rattle.job.specs.declared.Header.{Header}
use Rattle.scale.specs.Scale.{every, scale, ScaleSmallest}
use Rattle.scale.proofs.Smallest.{scale-smallest}

abbrev header : (code : ℕ) → Header
header code = record { kind = 0; code = code; p = 1; f = 4; n = 2; m = 4 }

-- two rows: B over 16, and 1/2
abbrev sides : ℤ → ℕ → ℤ
sides B zero = B
sides B (suc i) = pos 8

scales : (scale (header 0) (sides (pos 8)) ≡ 0) × (scale (header 0) (sides (negsuc 8)) ≡ 1) × (scale (header 0) (sides (pos 16)) ≡ 1)
    × (scale (header 0) (sides (pos 17)) ≡ 2) × (scale (header 0) (sides (negsuc 31)) ≡ 2) × (scale (header 1) (sides (negsuc 31)) ≡ 1)
unfolding every
scales = (refl, refl, refl, refl, refl, refl)

-- no number sent is above 2
small : (i : ℕ) → i < 2 → nat_abs (sides (pos 9) i) ≤ 2 ^ 5
small zero l = omega arith
small (suc i) l = omega arith

module _ (holds : ScaleSmallest) where
  -- twice 9 is at most 16 × 2; 16 is less than twice 9, which is row 1's; and the scale 1 is at most 2
  numbers_9 : (18 ≤ 32) × (16 < 2 * nat_abs (sides (pos 9) 0)) × (1 ≤ 2)
  unfolding every
  numbers_9 =
      let x = holds (header 0) (sides (pos 9)) small in
      let y = x.least 0 (omega arith) in
      (x.fit 0 (omega arith), first y.row y.inside y.large, x.most)
    where
      first : (i : ℕ) → i < 2 → 16 < 2 * nat_abs (sides (pos 9) i) → 16 < 2 * nat_abs (sides (pos 9) 0)
      first zero l h = h
      first (suc i) l h = absurd (omega (arith, h))

-- the statement is proved
pub numbers_of_9 : (18 ≤ 32) × (16 < 2 * nat_abs (sides (pos 9) 0)) × (1 ≤ 2)
numbers_of_9 = numbers_9 scale-smallest
