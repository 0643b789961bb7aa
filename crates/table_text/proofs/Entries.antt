-- An entry worked out by the rule: half a unit with the estimate's sign is added before a division. Cited by
-- the proofs of `nearest` and `put_table`.
use mathlib.Core.Path.{◌≡◌, refl, sym, ap, ◌∙◌}
use mathlib.Core.Bool.{true, false}
use Prim.Native.Nat.{ℕ, suc, ◌+◌, ◌<◌, ◌≤◌, ◌/◌}
use native.Mathlib.Omega.{arith}
use lib.IntN.{ℤ, pos, negsuc, neg_ℤ, nat_abs, ◌+ℤ◌, ◌-ℤ◌}
use lib.Signed.{lt_z, quot_z}
use mir.Syntax.{w64}
use mir.Val.{SFits, to_z, of_z}
use Rattle.integers.specs.Flat.{at}
use Rattle.integers.proofs.Machine.{Machine, known, bounded, cast, machs, machine_fits, machine_eq, machine_test}
use Rattle.integers.proofs.Order.{zarith}
use Rattle.selection.specs.Selection.{nearest, estimate_count, estimate_at, InTable, selection_table}
use Rattle.selection.proofs.Chosen.{within-table, estimate_in_table, entry-at_place, entry-small}

-- ---- the division

-- what is added to e: the quotient of the sum, cut toward zero, is the nearest whole number
pub record Half (e h : ℤ) : Type 0 where
  pub small : nat_abs h ≤ 16
  pub quotient : quot_z (e +ℤ h) (pos 32) ≡ nearest e

half_below : (e : ℤ) → lt_z e (pos 0) ≡ true → Half e (negsuc 15)
unfolding nearest
half_below (pos a) t = absurd (omega (zarith, t))
half_below (negsuc a) t =
    let e : suc (suc (a + 15)) ≡ suc a + 16 = omega arith in
    record { small = omega arith; quotient = ap (λ (n : ℕ). neg_ℤ (pos (n / 32))) e }

half_above : (e : ℤ) → lt_z e (pos 0) ≡ false → Half e (pos 16)
unfolding nearest
half_above (pos a) t = record { small = omega arith; quotient = refl }
half_above (negsuc a) t = absurd (omega (zarith, t))

module _ (e : ℤ) (i : InTable e) where
  abbrev the_e : Machine e
  the_e = bounded e 512 (within-table e i)

  -- `h` is what the two ways have left
  module _ (h : ℕ) where
    pub negative_half : lt_z (to_z w64 (of_z w64 e)) (pos 0) ≡ true → to_z w64 h ≡ negsuc 15 → Half e (to_z w64 h)
    negative_half t b = rw b (half_below e (let a = the_e in machine_test t (search machs depth 9) tt))

    pub positive_half : lt_z (to_z w64 (of_z w64 e)) (pos 0) ≡ false → to_z w64 h ≡ pos 16 → Half e (to_z w64 h)
    positive_half t b = rw b (half_above e (let a = the_e in machine_test t (search machs depth 9) tt))

  module _ (h : ℤ) (k : Half e h) where
    abbrev the_half : Machine h
    the_half = bounded h 16 k.small

    pub sum_fits : SFits w64 (to_z w64 (of_z w64 e) +ℤ h)
    sum_fits = let a = the_e in let b = the_half in machine_fits (search machs depth 9) tt

    pub quotient_fits : SFits w64 (quot_z (to_z w64 (of_z w64 (to_z w64 (of_z w64 e) +ℤ h))) (pos 32))
    quotient_fits = let a = the_e in let b = the_half in machine_fits (search machs depth 9) tt

    pub quotient_is : to_z w64 (of_z w64 (quot_z (to_z w64 (of_z w64 (to_z w64 (of_z w64 e) +ℤ h))) (pos 32))) ≡ nearest e
    quotient_is = let a = the_e in let b = the_half in machine_eq (search machs depth 9) tt k.quotient

-- ---- the entry at a place

module _ (k : ℕ) (l : k < estimate_count) where
  abbrev the_place : Machine (to_z w64 k)
  the_place = cast w64 k 1024 (omega arith)

  pub estimate-fits : SFits w64 (to_z w64 k -ℤ pos 512)
  estimate-fits = let a = the_place in machine_fits (search machs depth 9) tt

  estimate_read : to_z w64 (of_z w64 (to_z w64 k -ℤ pos 512)) ≡ estimate_at k
  estimate_read = let a = the_place in machine_eq (search machs depth 9) tt refl

  pub estimate-inside : InTable (to_z w64 (of_z w64 (to_z w64 k -ℤ pos 512)))
  estimate-inside = rw estimate_read (estimate_in_table k l)

  -- `z` is what `nearest` gave
  pub entry-made : (z : ℤ) → z ≡ nearest (to_z w64 (of_z w64 (to_z w64 k -ℤ pos 512))) → to_z w64 (of_z w64 z) ≡ at selection_table k
  entry-made z e =
      let a = known z (at selection_table k) 16 (e ∙ ap nearest estimate_read ∙ sym (entry-at_place k l)) (entry-small k l) in
      machine_eq (search machs depth 9) tt refl
