-- The choice of a row: its w, its digit and its residual, as the machine has them. And the rows chosen one
-- after the other. Cited by the proofs of `choose_row`, `choose` and `choose_and_list`.
use mathlib.Core.Path.{◌≡◌, refl, sym, ap, ◌∙◌}
use mathlib.Core.List.{List}
use Prim.Native.Nat.{ℕ, ◌+◌, ◌*◌, ◌^◌, ◌≤◌}
use native.Mathlib.Nat.{mul-le-mul}
use native.Mathlib.Omega.{arith}
use lib.IntN.{ℤ, pos, nat_abs, ◌+ℤ◌, ◌-ℤ◌, ◌*ℤ◌}
use lib.ListN.{set}
use lib.Pow.{pow_pos}
use mir.Syntax.{w8, w64}
use mir.Val.{to_z, of_z}
use Rattle.integers.specs.Sum.{Within}
use Rattle.integers.specs.Flat.{at, stores}
use Rattle.integers.proofs.Machine.{Machine, known, bounded, machs, machine_eq, machine_within}
use Rattle.integers.proofs.Stores.{stores-zero}
use Rattle.recurrence.specs.Recurrence.{select}
use Rattle.recurrence.proofs.Selection.{select_selects}
use Rattle.job.specs.Rules.{bound_over, bound_under}
use Rattle.system.proofs.Arrays.{stores-more}
use Rattle.integers.specs.Flat.{filled}
use Rattle.choice.specs.declared.units.Units.{Units}
use Rattle.choice.specs.Inner.{shifted_by, digit_from, residual_from, MayChooseRow}
use Rattle.choice.proofs.Residual.{unit-within}
use Rattle.integers.proofs.Filled.{filled_zero, filled_next, filled_past}

-- ---- one row

module _ {z s : List ℤ} {u : Units} {i : ℕ} (h : MayChooseRow u z s i) where
  -- row i's numbers
  abbrev W : ℤ
  W = shifted_by u z s i

  abbrev D : ℤ
  D = digit_from u z s i

  abbrev R : ℤ
  R = residual_from u z s i

  -- the digit is at most p, and leaves a residual within its bound
  pub digit_most : nat_abs D ≤ u.p
  digit_most = (select_selects u.p (2 ^ u.f) (pow_pos u.f)).small W h.bound

  pub digit_small : {B : ℕ} → u.p ≤ B → nat_abs D ≤ B
  digit_small l = omega (arith, digit_most)

  residual_most : bound_under * nat_abs R ≤ bound_over * 2 ^ u.f
  residual_most = (select_selects u.p (2 ^ u.f) (pow_pos u.f)).left W h.bound

  -- and how large they are
  unit-most : 2 ^ u.f ≤ 2 ^ 44
  unit-most = unit-within u.f u.in_range.1

  W-small : nat_abs W ≤ 2 ^ 49
  W-small =
      let k : 32 * u.p + 17 ≤ 497 = omega (arith, h.largest) in
      omega (arith, h.bound, mul-le-mul k unit-most)

  D-small : nat_abs D ≤ 15
  D-small = omega (arith, digit_most, h.largest)

  R-small : nat_abs R ≤ 2 ^ 44
  R-small = omega (arith, residual_most, unit-most)

  abbrev the_z : Machine (at z i)
  the_z = bounded (at z i) (2 ^ 44) h.residual

  abbrev the_s : Machine (at s i)
  the_s = bounded (at s i) (2 ^ 48) h.sum

  z_read : to_z w64 (of_z w64 (at z i)) ≡ at z i
  z_read = let a = the_z in machine_eq (search machs depth 9) tt refl

  s_read : to_z w64 (of_z w64 (at s i)) ≡ at s i
  s_read = let a = the_s in machine_eq (search machs depth 9) tt refl

  -- what `shifted` asks
  pub may_shift : (u.r ≤ 16) × (u.q ≤ 256) × Within (to_z w64 (of_z w64 (at z i))) (2 ^ 44) × Within (to_z w64 (of_z w64 (at s i))) (2 ^ 48)
  may_shift =
      let a = the_z in
      let b = the_s in
      (h.radix, h.units, machine_within (search machs depth 9) tt, machine_within (search machs depth 9) tt)

  -- `w` is what `shifted` gave
  module _ (w : ℤ) (ew : w ≡ pos u.r *ℤ to_z w64 (of_z w64 (at z i)) +ℤ pos u.q *ℤ to_z w64 (of_z w64 (at s i))) where
    w_is : w ≡ W
    w_is = ew ∙ rw (z_read, s_read) refl

    abbrev the_w : Machine w
    the_w = known w W (2 ^ 49) w_is W-small

    w_read : to_z w64 (of_z w64 w) ≡ W
    w_read = let a = the_w in machine_eq (search machs depth 9) tt refl

    pub w_within : Within (to_z w64 (of_z w64 w)) (2 ^ 49)
    w_within = let a = the_w in machine_within (search machs depth 9) tt

    -- what `select` asks
    pub w_bound : bound_under * nat_abs (to_z w64 (of_z w64 w)) ≤ (bound_under * u.p + bound_over) * 2 ^ u.f
    w_bound = rw w_read h.bound

    -- `d` is what `select` gave
    module _ (d : ℤ) (ed : d ≡ select u.p (2 ^ u.f) (to_z w64 (of_z w64 w))) where
      d_is : d ≡ D
      d_is = ed ∙ ap (λ x. select u.p (2 ^ u.f) x) w_read

      abbrev the_d : Machine d
      the_d = known d D 15 d_is D-small

      pub d_read : to_z w64 (of_z w64 d) ≡ D
      d_read = let a = the_d in machine_eq (search machs depth 9) tt refl

      pub d_within : {B : ℕ} → 15 ≤ B → Within (to_z w64 (of_z w64 d)) B
      d_within k = record { abs = rw d_read (omega (arith, D-small)) }

      -- what is stored: `x` is what `narrow` gave, `y` what `residual_after` gave
      pub digit_stored : (x : ℤ) → x ≡ to_z w64 (of_z w64 d) → to_z w8 (of_z w8 x) ≡ D
      digit_stored x e = let a = known x D 15 (e ∙ d_read) D-small in machine_eq (search machs depth 9) tt refl

      y_is : (y : ℤ) → y ≡ to_z w64 (of_z w64 w) -ℤ pos (2 ^ u.f) *ℤ to_z w64 (of_z w64 d) → y ≡ R
      y_is y e = e ∙ rw (w_read, d_read) refl

      pub residual_stored : (y : ℤ) → y ≡ to_z w64 (of_z w64 w) -ℤ pos (2 ^ u.f) *ℤ to_z w64 (of_z w64 d) → to_z w64 (of_z w64 y) ≡ R
      residual_stored y e = let a = known y R (2 ^ 44) (y_is y e) R-small in machine_eq (search machs depth 9) tt refl

-- ---- the rows one after the other

-- the rows below i are chosen: they have their new residuals and digits, and these are stored; all else is as
-- it was
pub record Chosen (k : ℕ) (u : Units) (s z₀ new₀ ds₀ : List ℤ) (i : ℕ) (z new ds : List ℤ) : Type 0 where
  pub residuals : z ≡ filled (residual_from u z₀ s) z₀ i
  pub digits : new ≡ filled (digit_from u z₀ s) new₀ i
  pub stored : ds ≡ stores ds₀ (λ t. 16 * k + t) (digit_from u z₀ s) i

-- none
pub chosen_none : {k : ℕ} {u : Units} {s z new ds : List ℤ} → Chosen k u s z new ds 0 z new ds
chosen_none =
    record { residuals = sym (filled_zero _ _); digits = sym (filled_zero _ _); stored = sym (stores-zero _ _ _) }

-- one more: row i still has its residual
module _ {k : ℕ} {u : Units} {s z₀ new₀ ds₀ : List ℤ} {i : ℕ} {z new ds : List ℤ} (h : Chosen k u s z₀ new₀ ds₀ i z new ds) where
  still : at z i ≡ at z₀ i
  still = rw h.residuals (filled_past (residual_from u z₀ s) z₀ i i (omega arith))

  pub may_choose_next : MayChooseRow u z₀ s i → MayChooseRow u z s i
  may_choose_next m =
      record {
        radix = m.radix;
        units = m.units;
        largest = m.largest;
        residual = rw still m.residual;
        sum = m.sum;
        bound = rw still m.bound;
      }

  -- `x`, `new'`, `ds'` and `z'` are what `choose_row` gave and left
  pub digit-next : {x : ℤ} → x ≡ digit_from u z s i → x ≡ digit_from u z₀ s i
  digit-next e = e ∙ rw still refl

  pub chosen_next : {new' ds' z' : List ℤ} → new' ≡ set new i (digit_from u z s i) → ds' ≡ set ds (16 * k + i) (digit_from u z s i)
      → z' ≡ set z i (residual_from u z s i) → Chosen k u s z₀ new₀ ds₀ (i + 1) z' new' ds'
  chosen_next en ed ez =
      record {
        residuals = ez ∙ filled_next _ _ _ _ _ h.residuals (rw still refl);
        digits = en ∙ filled_next _ _ _ _ _ h.digits (digit-next refl);
        stored = ed ∙ stores-more _ _ _ _ _ _ h.stored (digit-next refl);
      }
