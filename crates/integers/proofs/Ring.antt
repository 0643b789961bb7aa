-- The laws of the commutative ring ℤ that `lib.IntN` does not have (it has `+ℤ_comm`, `+ℤ_assoc`, `*ℤ-comm`,
-- `zero-*ℤ` and their like). For an identity that is none of these, use `solve` of the module `Normal`.
use mathlib.Core.Path.{◌≡◌}
use native.Mathlib.Omega.{arith}
use lib.IntN.{ℤ, pos, neg_ℤ, ◌+ℤ◌, ◌-ℤ◌, ◌*ℤ◌}
use Rattle.integers.proofs.Parts.{of_var, eq_by, differences}
use Rattle.integers.proofs.Order.{of_eq}

module _ (a b c : ℤ) where
  pub +ℤ-left-comm : a +ℤ (b +ℤ c) ≡ b +ℤ (a +ℤ c)
  +ℤ-left-comm =
      let x = of_var a in let y = of_var b in let z = of_var c in
      eq_by (search differences) (search differences) (omega arith)

  pub *ℤ-assoc : (a *ℤ b) *ℤ c ≡ a *ℤ (b *ℤ c)
  *ℤ-assoc =
      let x = of_var a in let y = of_var b in let z = of_var c in
      eq_by (search differences) (search differences) (omega arith)

  pub *ℤ-left-comm : a *ℤ (b *ℤ c) ≡ b *ℤ (a *ℤ c)
  *ℤ-left-comm =
      let x = of_var a in let y = of_var b in let z = of_var c in
      eq_by (search differences) (search differences) (omega arith)

  pub *ℤ-distl : a *ℤ (b +ℤ c) ≡ a *ℤ b +ℤ a *ℤ c
  *ℤ-distl =
      let x = of_var a in let y = of_var b in let z = of_var c in
      eq_by (search differences) (search differences) (omega arith)

  pub *ℤ-distr : (a +ℤ b) *ℤ c ≡ a *ℤ c +ℤ b *ℤ c
  *ℤ-distr =
      let x = of_var a in let y = of_var b in let z = of_var c in
      eq_by (search differences) (search differences) (omega arith)

module _ (a b : ℤ) where
  pub *ℤ-negl : neg_ℤ a *ℤ b ≡ neg_ℤ (a *ℤ b)
  *ℤ-negl = let x = of_var a in let y = of_var b in eq_by (search differences) (search differences) (omega arith)

pub one-*ℤ : (a : ℤ) → pos 1 *ℤ a ≡ a
one-*ℤ a = let x = of_var a in eq_by (search differences) (search differences) (omega arith)

pub *ℤ-one : (a : ℤ) → a *ℤ pos 1 ≡ a
*ℤ-one a = let x = of_var a in eq_by (search differences) (search differences) (omega arith)

-- numbers are equal where their difference is 0
pub eq_of_sub : (a b : ℤ) → a -ℤ b ≡ pos 0 → a ≡ b
eq_of_sub a b e =
    let x = of_var a in let y = of_var b in
    eq_by x y (omega (arith, of_eq {a = a -ℤ b} {b = pos 0} (search differences) (search differences) e))
