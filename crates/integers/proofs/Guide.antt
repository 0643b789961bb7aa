-- Worked examples: what a newcomer wants first, each in a line. `Normal`, `Linear` and `Machine` say more at
-- their tops.
use mathlib.Core.Path.{◌≡◌, refl}
use mathlib.Core.List.{List, [], ◌∷◌}
use Prim.Native.Nat.{◌+◌, ◌^◌, ◌≤◌}
use native.Mathlib.Omega.{arith}
use lib.IntN.{ℤ, pos, nat_abs, ◌+ℤ◌, ◌-ℤ◌, ◌*ℤ◌}
use lib.Signed.{◌≤ℤ◌, ◌<ℤ◌}
use mir.Syntax.{w64}
use mir.Val.{SFits, to_z, of_z}
use Rattle.integers.specs.Sum.{Within}
use Rattle.integers.proofs.Absolute.{abs-add, abs_parts}
use Rattle.integers.proofs.Normal.{solve, polys}
use Rattle.integers.proofs.Linear.{lins, by_le, by_lt, use_le, use_lt, by_within, use_eq}
use Rattle.integers.proofs.Machine.{machs, machine_fits, machine_eq}

-- an identity of the ring
squares : (a b : ℤ) → (a +ℤ b) *ℤ (a -ℤ b) ≡ a *ℤ a -ℤ b *ℤ b
squares a b = solve (a ∷ b ∷ []) (search polys depth 12) (search polys depth 12) tt

-- the triangle inequality
triangle : (a b : ℤ) → nat_abs (a +ℤ b) ≤ nat_abs a + nat_abs b
triangle a b = abs-add a b

-- an order from bounds, and one from another order
sixteen : (z g : ℤ) → nat_abs z ≤ 8 → nat_abs g ≤ 60 → (pos 16 *ℤ (z +ℤ g)) ≤ℤ pos 1088
sixteen z g h k = by_le (z ∷ g ∷ []) (search lins depth 9) (search lins depth 9) (omega (arith, abs_parts z, abs_parts g))

chain : (z g y : ℤ) → (pos 2 *ℤ z -ℤ y) ≤ℤ (g +ℤ pos 3) → g <ℤ y → (pos 2 *ℤ z) <ℤ (pos 2 *ℤ y +ℤ pos 3)
chain z g y h k =
    let ρ : List ℤ = z ∷ g ∷ y ∷ [] in
    by_lt ρ (search lins depth 9) (search lins depth 9)
    (omega (arith, use_le ρ h (search lins depth 9) (search lins depth 9), use_lt ρ k (search lins depth 9) (search lins depth 9)))

-- a bound from an equation and bounds
sum-within : (y z g : ℤ) → y ≡ z +ℤ g → Within z 8 → Within g 60 → Within y 68
sum-within y z g e h k =
    let ρ : List ℤ = y ∷ z ∷ g ∷ [] in
    by_within ρ (search lins depth 9)
    (omega (arith, use_eq ρ e (search lins depth 9) (search lins depth 9), h.abs, k.abs, abs_parts z, abs_parts g))

-- the overflow needs and the result of r * (z + g * d), as the machine has them
module _ (r z g d : ℤ) (hr : Within r 16) (hz : Within z (2 ^ 39)) (hg : Within g (2 ^ 42)) (hd : Within d 15) where
  product-fits : SFits w64 (to_z w64 (of_z w64 g) *ℤ to_z w64 (of_z w64 d))
  product-fits = machine_fits (search machs depth 12) tt

  whole_fits : SFits w64 (to_z w64 (of_z w64 r) *ℤ to_z w64 (of_z w64 (to_z w64 (of_z w64 z) +ℤ to_z w64 (of_z w64 (to_z w64 (of_z w64 g) *ℤ to_z w64 (of_z w64 d))))))
  whole_fits = machine_fits (search machs depth 12) tt

  whole_is : to_z w64 (of_z w64 (to_z w64 (of_z w64 z) +ℤ to_z w64 (of_z w64 (to_z w64 (of_z w64 g) *ℤ to_z w64 (of_z w64 d))))) ≡ z +ℤ g *ℤ d
  whole_is = machine_eq (search machs depth 12) tt refl
