-- The digit of an estimate and the digit of w, as the code has them: the place in the table, the entry
-- there, and numbers that calls gave. Cited by the proofs of `digit_at` and `select`, and by that of
-- `compare_table`.
use mathlib.Core.Path.{◌≡◌, refl, ap, ◌∙◌}
use mathlib.Core.List.{List}
use Prim.Native.Nat.{ℕ, ◌+◌, ◌*◌, ◌^◌, ◌<◌, ◌≤◌}
use native.Mathlib.Nat.{mul-le-mul}
use native.Mathlib.Omega.{arith}
use lib.IntN.{ℤ, pos, nat_abs, ◌+ℤ◌}
use lib.Pow.{pow_mono, pow_pos}
use lib.Signed.{◌≤ℤ◌}
use mir.Syntax.{w8, w64}
use mir.Val.{SFits, to_z, of_z}
use Rattle.integers.specs.Flat.{at}
use Rattle.integers.specs.Sum.{Within}
use Rattle.integers.proofs.Machine.{Machine, bounded, known, machs, machine_fits, machine_eq}
use Rattle.recurrence.specs.Recurrence.{estimate, select}
use Rattle.recurrence.proofs.Selection.{select_selects}
use Rattle.selection.specs.Selection.{InTable, selection_table, estimate_count, place_of, held, table_digit}
use Rattle.selection.proofs.Chosen.{within-table, place_natural, place_inside, entry-small, table_selects}
use Rattle.selection.proofs.Held.{held_small}

-- ---- an entry: `t` is the table, and `z` the i64 made of its entry at place k

pub entry_read : (k : ℕ) → k < estimate_count → (t : List ℤ) (z : ℤ) → t ≡ selection_table → z ≡ to_z w8 (of_z w8 (at t k)) → to_z w64 (of_z w64 z) ≡ at selection_table k
entry_read k l t z e f =
    let a = known (at t k) (at selection_table k) 16 (rw e) (entry-small k l) in
    rw f (machine_eq (search machs depth 9) tt refl)

-- ---- the digit of an estimate

module _ (e : ℤ) (h : InTable e) where
  abbrev the_estimate : Machine e
  the_estimate = bounded e 512 (within-table e h)

  pub place_fits : SFits w64 (to_z w64 (of_z w64 e) +ℤ pos 512)
  place_fits = let a = the_estimate in machine_fits (search machs depth 9) tt

  place_read : to_z w64 (of_z w64 (to_z w64 (of_z w64 e) +ℤ pos 512)) ≡ e +ℤ pos 512
  place_read = let a = the_estimate in machine_eq (search machs depth 9) tt refl

  pub place_least : pos 0 ≤ℤ to_z w64 (of_z w64 (to_z w64 (of_z w64 e) +ℤ pos 512))
  place_least = rw place_read (place_natural e h)

  -- `k` is what `to_unsigned` gave
  module _ (k : ℕ) (ek : k ≡ nat_abs (to_z w64 (of_z w64 (to_z w64 (of_z w64 e) +ℤ pos 512)))) where
    place_is : k ≡ place_of e
    place_is = ek ∙ ap nat_abs place_read

    pub place_below : k < estimate_count
    place_below = rw place_is (place_inside e h)

    -- `t` is the table, and `z` the i64 made of its entry
    module _ (t : List ℤ) (et : t ≡ selection_table) (z : ℤ) (ez : z ≡ to_z w8 (of_z w8 (at t k))) where
      pub entry-within : Within (to_z w64 (of_z w64 z)) 16
      entry-within = record { abs = rw (entry_read k place_below t z et ez) (entry-small k place_below) }

      -- `q` is what `held_back` gave
      pub digit_is : (p : ℕ) (q : ℤ) → p ≤ 15 → q ≡ held p (to_z w64 (of_z w64 z)) → to_z w64 (of_z w64 q) ≡ table_digit p e
      digit_is p q hp eq =
          let f : q ≡ table_digit p e = eq ∙ ap (held p) (entry_read k place_below t z et ez ∙ ap (at selection_table) place_is) in
          let a = known q (table_digit p e) 15 f (omega (arith, held_small p (at selection_table (place_of e)))) in
          machine_eq (search machs depth 9) tt refl

-- ---- the digit of w

module _ (w : ℤ) (f p : ℕ) (hf : f ≤ 44) (hp : p ≤ 15) (h : 32 * nat_abs w ≤ (32 * p + 17) * 2 ^ f) where
  w_small : Within w (2 ^ 49)
  w_small =
      let k : 32 * p + 17 ≤ 497 = omega arith in
      let l : (32 * p + 17) * 2 ^ f ≤ 497 * 2 ^ 44 = mul-le-mul k (pow_mono hf) in
      record { abs = omega (arith, h) }

  w_read : to_z w64 (of_z w64 w) ≡ w
  w_read = let a = w_small in machine_eq (search machs depth 9) tt refl

  pub w_within : Within (to_z w64 (of_z w64 w)) (2 ^ 49)
  w_within = rw w_read w_small

  in_bounds : InTable (estimate (2 ^ f) w) × (table_digit p (estimate (2 ^ f) w) ≡ select p (2 ^ f) w)
  in_bounds = table_selects p (2 ^ f) w (pow_pos f) hp h

  -- `e` is what `estimate` gave
  module _ (e : ℤ) (ee : e ≡ estimate (2 ^ f) (to_z w64 (of_z w64 w))) where
    e_read : to_z w64 (of_z w64 e) ≡ estimate (2 ^ f) w
    e_read =
        let a = known e (estimate (2 ^ f) w) 512 (ee ∙ ap (estimate (2 ^ f)) w_read) (within-table (estimate (2 ^ f) w) in_bounds.0) in
        machine_eq (search machs depth 9) tt refl

    pub e_in_table : InTable (to_z w64 (of_z w64 e))
    e_in_table = rw e_read in_bounds.0

    -- `q` is what `digit_at` gave
    pub select_is : (q : ℤ) → q ≡ table_digit p (to_z w64 (of_z w64 e)) → to_z w64 (of_z w64 q) ≡ select p (2 ^ f) w
    select_is q eq =
        let d : q ≡ select p (2 ^ f) w = eq ∙ ap (table_digit p) e_read ∙ in_bounds.1 in
        let a = known q (select p (2 ^ f) w) 15 d (omega (arith, (select_selects p (2 ^ f) (pow_pos f)).small w h)) in
        machine_eq (search machs depth 9) tt refl
