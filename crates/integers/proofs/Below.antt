-- A negative number z by way of -1 - z, which always fits: the smallest i64 has no negation.
use mathlib.Core.Path.{◌≡◌, ◌∙◌}
use mathlib.Core.Bool.{true}
use Prim.Native.Nat.{◌+◌}
use native.Mathlib.Omega.{arith}
use lib.IntN.{ℤ, pos, negsuc, nat_abs, ◌-ℤ◌}
use lib.Signed.{lt_z, mag}
use mir.Syntax.{w64}
use mir.Val.{SFits, to_z, of_z}
use mir.Facts.{to_z-of_z}
use Rattle.integers.proofs.Order.{zarith}
use Rattle.integers.proofs.Parts.{eq_by, differences}

module _ (z : ℤ) (h : lt_z z (pos 0) ≡ true) where
  pub one_below : (negsuc 0 -ℤ z ≡ pos (mag z)) × (mag z + 1 ≡ nat_abs z)
  one_below = by_sign z h
    where
      by_sign : (z : ℤ) → lt_z z (pos 0) ≡ true → (negsuc 0 -ℤ z ≡ pos (mag z)) × (mag z + 1 ≡ nat_abs z)
      by_sign (pos n) h = absurd (omega (zarith, h))
      by_sign (negsuc n) h = (eq_by (search differences) (search differences) (omega arith), omega arith)

  pub one_below_fits : SFits w64 z → SFits w64 (negsuc 0 -ℤ z)
  one_below_fits f = rw one_below.0 (record { sfits = f.sfits })

  -- as the machine has it
  pub one_below_read : SFits w64 z → to_z w64 (of_z w64 (negsuc 0 -ℤ to_z w64 (of_z w64 z))) ≡ pos (mag z)
  one_below_read f = rw (to_z-of_z {w = w64} f) (to_z-of_z {w = w64} (one_below_fits f) ∙ one_below.0)
