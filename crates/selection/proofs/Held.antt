-- An entry held back as the code does it, by the greater and the lesser of two numbers. Cited by the proofs
-- of `lesser`, `greater` and `held_back`.
use mathlib.Core.Path.{◌≡◌, refl, sym, ap, ap₂, ◌∙◌}
use mathlib.Core.Bool.{Bool, true, false, cond}
use Prim.Native.Nat.{ℕ, zero, suc, ◌≤◌, min}
use native.Mathlib.Omega.{arith}
use lib.IntN.{ℤ, pos, negsuc, neg_ℤ, nat_abs, ◌-ℤ◌, +ℤ_idl}
use lib.Signed.{lt_z}
use mir.Syntax.{w64}
use mir.Val.{SFits, to_z, of_z}
use mir.Facts.{to_z-of_z}
use Rattle.integers.specs.Sum.{Within}
use Rattle.integers.proofs.Absolute.{abs_neg}
use Rattle.integers.proofs.Machine.{Machine, known, cast, machs, machine_fits, machine_eq}
use Rattle.integers.proofs.Order.{zarith}
use Rattle.integers.proofs.Parts.{pos_part_neg, neg_part_neg, cond_both}
use Rattle.selection.specs.Selection.{held}
use Rattle.selection.specs.Inner.{lesser, greater}

-- ---- the lesser and the greater

-- what a test of two numbers of the machine picks is what the test of the numbers does
module _ (x y v u : ℤ) (hx : SFits w64 x) (hy : SFits w64 y) where
  test_is : {b : Bool} → lt_z (to_z w64 (of_z w64 x)) (to_z w64 (of_z w64 y)) ≡ b → lt_z x y ≡ b
  test_is t = sym (ap₂ lt_z (to_z-of_z hx) (to_z-of_z hy)) ∙ t

  pub picked : SFits w64 v → lt_z (to_z w64 (of_z w64 x)) (to_z w64 (of_z w64 y)) ≡ true → to_z w64 (of_z w64 v) ≡ cond (lt_z x y) v u
  picked hv t = to_z-of_z hv ∙ rw (test_is t) refl

  pub passed : SFits w64 u → lt_z (to_z w64 (of_z w64 x)) (to_z w64 (of_z w64 y)) ≡ false → to_z w64 (of_z w64 u) ≡ cond (lt_z x y) v u
  passed hu t = to_z-of_z hu ∙ rw (test_is t) refl

-- ---- held back

at_most : (p : ℕ) (z : ℤ) → lt_z (pos p) z ≡ true → pos p ≡ held p z
unfolding held
at_most p (pos a) t = ap pos (omega (zarith, t))
at_most p (negsuc a) t = absurd (omega (zarith, t))

at_least : (p : ℕ) (z : ℤ) → lt_z (neg_ℤ (pos p)) z ≡ false → neg_ℤ (pos p) ≡ held p z
unfolding held
at_least p (pos a) t = low p a (omega (zarith, t, pos_part_neg (pos p), neg_part_neg (pos p)))
  where
    low : (p a : ℕ) → (p ≡ 0) × (a ≡ 0) → neg_ℤ (pos p) ≡ pos (min a p)
    low p a e = rw (e.0, e.1) refl
at_least p (negsuc a) t =
    let e : p ≡ min (suc a) p = omega (zarith, t, pos_part_neg (pos p), neg_part_neg (pos p)) in
    ap (λ (n : ℕ). neg_ℤ (pos n)) e

between : (p : ℕ) (z : ℤ) → lt_z (pos p) z ≡ false → lt_z (neg_ℤ (pos p)) z ≡ true → z ≡ held p z
unfolding held
between p (pos a) t s = ap pos (omega (zarith, t))
between p (negsuc a) t s =
    let e : suc a ≡ min (suc a) p = omega (zarith, s, pos_part_neg (pos p), neg_part_neg (pos p)) in
    ap (λ (n : ℕ). neg_ℤ (pos n)) e

least_below : (p : ℕ) → lt_z (pos p) (neg_ℤ (pos p)) ≡ false
least_below zero = refl
least_below (suc q) = refl

held_is : (p : ℕ) (z : ℤ) → lesser (greater (neg_ℤ (pos p)) z) (pos p) ≡ held p z
held_is p z = by_least (lt_z (neg_ℤ (pos p)) z) refl
  where
    by_most : (b : Bool) → lt_z (pos p) z ≡ b → lt_z (neg_ℤ (pos p)) z ≡ true → cond b (pos p) z ≡ held p z
    by_most true t s = at_most p z t
    by_most false t s = between p z t s

    by_least : (b : Bool) → lt_z (neg_ℤ (pos p)) z ≡ b → lesser (cond b z (neg_ℤ (pos p))) (pos p) ≡ held p z
    by_least true s = by_most (lt_z (pos p) z) refl s
    by_least false s = rw (least_below p) (at_least p z s)

pub held_small : (p : ℕ) (z : ℤ) → nat_abs (held p z) ≤ p
unfolding held
held_small p (pos a) = omega arith
held_small p (negsuc a) = rw (abs_neg (pos (min (suc a) p))) (omega arith)

module _ (p : ℕ) (hp : p ≤ 15) where
  abbrev the_most : Machine (to_z w64 p)
  the_most = cast w64 p 15 hp

  pub least_fits : SFits w64 (pos 0 -ℤ to_z w64 p)
  least_fits = let a = the_most in machine_fits (search machs depth 9) tt

  least_read : to_z w64 (of_z w64 (pos 0 -ℤ to_z w64 p)) ≡ neg_ℤ (pos p)
  least_read = let a = the_most in machine_eq (search machs depth 9) tt (+ℤ_idl (neg_ℤ (pos p)))

  raised_small : (z : ℤ) → nat_abs z ≤ 16 → nat_abs (greater (neg_ℤ (pos p)) z) ≤ 16
  raised_small z h =
      cond_both (lt_z (neg_ℤ (pos p)) z) z (neg_ℤ (pos p)) (λ x. nat_abs x ≤ 16) (λ _. h) (λ _. rw (abs_neg (pos p)) (omega arith))

  -- `raised` is what `greater` gave, and `q` what `lesser` did
  pub held_back_is : (z raised q : ℤ) → Within z 16
      → raised ≡ greater (to_z w64 (of_z w64 (pos 0 -ℤ to_z w64 p))) (to_z w64 (of_z w64 z))
      → q ≡ lesser (to_z w64 (of_z w64 raised)) (to_z w64 p) → to_z w64 (of_z w64 q) ≡ held p z
  held_back_is z raised q h e f =
      let k : to_z w64 (of_z w64 z) ≡ z = machine_eq (search machs depth 9) tt refl in
      let a = known raised (greater (neg_ℤ (pos p)) z) 16 (e ∙ ap₂ greater least_read k) (raised_small z h.abs) in
      let r : to_z w64 (of_z w64 raised) ≡ greater (neg_ℤ (pos p)) z = machine_eq (search machs depth 9) tt refl in
      let m : to_z w64 p ≡ pos p = let b = the_most in machine_eq b tt refl in
      let b = known q (held p z) 15 (f ∙ ap₂ lesser r m ∙ held_is p z) (omega (arith, held_small p z)) in
      machine_eq (search machs depth 9) tt refl
