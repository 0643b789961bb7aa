-- The estimate as the code makes it: a shift, or a product where there is nothing to cut. Cited by the proof
-- of `estimate`.
use mathlib.Core.Path.{◌≡◌, sym, ap, ◌∙◌}
use Prim.Native.Nat.{ℕ, ◌+◌, ◌*◌, ◌-◌, ◌/◌, ◌^◌, ◌≤◌}
use native.Mathlib.Nat.{div-div-eq-div-mul}
use native.Mathlib.Omega.{arith}
use lib.IntN.{ℤ, pos, negsuc, ◌*ℤ◌}
use lib.Pow.{pow-add}
use lib.Signed.{shr_z}
use mir.Syntax.{w64}
use mir.Val.{SFits, to_z, of_z}
use Rattle.integers.specs.Sum.{Within}
use Rattle.integers.proofs.Machine.{machs, machine_fits, machine_eq}
use Rattle.recurrence.specs.Recurrence.{estimate}
use Rattle.recurrence.proofs.Selection.{estimate_above, estimate_below, estimate_exact}

-- 32 v is the unit: a shift by five digits fewer cuts down to 32nds of it
of_part : (v : ℕ) (w : ℤ) → shr_z w v ≡ estimate (32 * v) w
of_part v (pos a) =
    let e : 32 * a / 32 ≡ a = omega arith in
    ap pos (ap (λ (n : ℕ). n / v) (sym e) ∙ div-div-eq-div-mul (32 * a) 32 v) ∙ sym (estimate_above (32 * v) a)
of_part v (negsuc a) =
    let e : (32 * a + 31) / 32 ≡ a = omega arith in
    ap negsuc (ap (λ (n : ℕ). n / v) (sym e) ∙ div-div-eq-div-mul (32 * a + 31) 32 v) ∙ sym (estimate_below (32 * v) a)

of_bits : (f : ℕ) (w : ℤ) → 5 ≤ f → shr_z w (2 ^ (f - 5)) ≡ estimate (2 ^ f) w
of_bits f w h =
    let e : 5 + (f - 5) ≡ f = omega arith in
    of_part (2 ^ (f - 5)) w ∙ ap (λ (u : ℕ). estimate u w) (sym (pow-add 2 5 (f - 5)) ∙ ap (λ (n : ℕ). 2 ^ n) e)

module _ (w : ℤ) (f : ℕ) (hw : Within w (2 ^ 49)) where
  pub double_fits : SFits w64 (pos 2 *ℤ to_z w64 (of_z w64 w))
  double_fits = machine_fits (search machs depth 9) tt

  pub double_is : f ≡ 4 → to_z w64 (of_z w64 (pos 2 *ℤ to_z w64 (of_z w64 w))) ≡ estimate (2 ^ f) w
  double_is e = machine_eq (search machs depth 9) tt (sym (estimate_exact w) ∙ ap (λ (n : ℕ). estimate (2 ^ n) w) (sym e))

  pub shift_is : 5 ≤ f → to_z w64 (of_z w64 (shr_z (to_z w64 (of_z w64 w)) (2 ^ (f - 5)))) ≡ estimate (2 ^ f) w
  shift_is h = machine_eq (search machs depth 9) tt (of_bits f w h)
