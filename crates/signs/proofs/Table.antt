-- The table of the columns and their negatives: how it is filled, and how 16 of its numbers are added to the
-- sums. Cited by the proofs of `place_column`, `columns` and `add_rows`. Which columns are added is in
-- `Listing`.
use mathlib.Core.Path.{◌≡◌, refl, sym, ◌∙◌}
use mathlib.Core.List.{List}
use mathlib.Core.Logic.{◌⊎◌, inl, inr}
use Prim.Native.Nat.{ℕ, ◌+◌, ◌*◌, ◌/◌, ◌%◌, ◌^◌, ◌<◌, ◌≤◌}
use native.Mathlib.Omega.{arith}
use borrow.Author.Tests.{lt-ltb, le-ltb}
use lib.IntN.{ℤ, pos, nat_abs, ◌+ℤ◌, ◌-ℤ◌}
use lib.ListN.{set, replicate, length-set, get_or-replicate}
use lib.Seq.{get_or-set_same, get_or-set_other}
use mir.Syntax.{w64}
use mir.Val.{SFits, to_z, of_z}
use Rattle.integers.proofs.Maximum.{le_or_lt}
use Rattle.integers.proofs.Machine.{Machine, known, bounded, machs, machine_fits, machine_eq}
use Rattle.integers.specs.Flat.{at, entry}
use Rattle.integers.specs.Flat.{filled}
use Rattle.signs.specs.Inner.{cell, Tabulated, Columns, MayTabulate, MayAdd, added}
use Rattle.integers.proofs.Filled.{filled_past}

-- ---- filling it

pub tabulated_none : (n : ℕ) (g : List ℤ) → Tabulated n g (replicate 512 (pos 0)) 0
tabulated_none n g =
    record {
      size = refl;
      negatives = λ k l. absurd (omega arith);
      entries = λ k l. absurd (omega arith);
      rest = λ k m l. (zero-at k (omega arith), zero-at (256 + k) (omega arith));
    }
  where
    zero-at : (k : ℕ) → k < 512 → at (replicate 512 (pos 0)) k ≡ pos 0
    zero-at k l = get_or-replicate 512 k (pos 0) (pos 0) l

-- one cell more: v is the cell, x its negative
pub tabulated_next : {n : ℕ} {g t : List ℤ} {e : ℕ} → e < 256 → Tabulated n g t e → (x v : ℤ) → x ≡ pos 0 -ℤ cell n g e → v ≡ cell n g e
    → Tabulated n g (set (set t e x) (256 + e) v) (e + 1)
tabulated_next {n} {g} {t} {e} l h x v ex ev =
    record {
      size = length-set (set t e x) (256 + e) v ∙ length-set t e x ∙ h.size;
      negatives = λ k m. negative k m (le_or_lt e k);
      entries = λ k m. last k m (le_or_lt e k);
      rest = λ k m q.
          let r = h.rest k (omega arith) q in
          (other k (λ a. omega arith) (λ a. omega arith) ∙ r.0, other (256 + k) (λ a. omega arith) (λ a. omega arith) ∙ r.1);
    }
  where
    other : (k : ℕ) → (k ≡ e → ⊥) → (k ≡ 256 + e → ⊥) → at (set (set t e x) (256 + e) v) k ≡ at t k
    other k a b = get_or-set_other (set t e x) (256 + e) k v (pos 0) b ∙ get_or-set_other t e k x (pos 0) a

    negative : (k : ℕ) → k < e + 1 → (e ≤ k) ⊎ (k < e) → at (set (set t e x) (256 + e) v) k ≡ pos 0 -ℤ cell n g k
    negative k m (inl q) =
        let same : k ≡ e = omega arith in
        rw same (get_or-set_other (set t e x) (256 + e) e v (pos 0) (λ q. omega arith) ∙ get_or-set_same t e x (pos 0) (omega (arith, h.size)) ∙ ex)
    negative k m (inr q) = other k (λ a. omega arith) (λ a. omega arith) ∙ h.negatives k q

    last : (k : ℕ) → k < e + 1 → (e ≤ k) ⊎ (k < e) → at (set (set t e x) (256 + e) v) (256 + k) ≡ cell n g k
    last k m (inl q) =
        let same : k ≡ e = omega arith in
        rw same (get_or-set_same (set t e x) (256 + e) v (pos 0) (omega (arith, length-set t e x, h.size)) ∙ ev)
    last k m (inr q) = other (256 + k) (λ a. omega arith) (λ a. omega arith) ∙ h.entries k q

-- a column whose rows below n are placed is done: the cells of the others are 0
pub column_done : {n : ℕ} {g t : List ℤ} {j : ℕ} → n ≤ 16 → j < n → Tabulated n g t (16 * j + n) → Tabulated n g t (16 * (j + 1))
column_done {n} {g} {t} {j} order l h =
    record {
      size = h.size;
      negatives = λ k m. negative k m (le_or_lt (16 * j + n) k);
      entries = λ k m. last k m (le_or_lt (16 * j + n) k);
      rest = λ k m q. h.rest k (omega arith) q;
    }
  where
    past : (k : ℕ) → k < 16 * (j + 1) → 16 * j + n ≤ k → cell n g k ≡ pos 0
    past k m q = let a : n ≤ k % 16 = omega arith in rw (le-ltb (k % 16) n a) refl

    negative : (k : ℕ) → k < 16 * (j + 1) → (16 * j + n ≤ k) ⊎ (k < 16 * j + n) → at t k ≡ pos 0 -ℤ cell n g k
    negative k m (inl q) = (h.rest k q (omega arith)).0 ∙ rw (past k m q) refl
    negative k m (inr q) = h.negatives k q

    last : (k : ℕ) → k < 16 * (j + 1) → (16 * j + n ≤ k) ⊎ (k < 16 * j + n) → at t (256 + k) ≡ cell n g k
    last k m (inl q) = (h.rest k q (omega arith)).1 ∙ rw (past k m q) refl
    last k m (inr q) = h.entries k q

-- the cell of row i in column j
cell_is : (n : ℕ) (g : List ℤ) (i j : ℕ) → i < n → n ≤ 16 → cell n g (16 * j + i) ≡ entry g i j
cell_is n g i j l m =
    let a : (16 * j + i) % 16 ≡ i = omega arith in
    let b : (16 * j + i) / 16 ≡ j = omega arith in
    rw (a, b, lt-ltb i n l) refl

-- cells are small, so that the machine has them and their negatives
module _ (n : ℕ) (g : List ℤ) (order : n ≤ 16) (small : MayTabulate n g) where
  by_row : (e : ℕ) → e < 16 * n → (n ≤ e % 16) ⊎ (e % 16 < n) → nat_abs (cell n g e) ≤ 2 ^ 40
  by_row e l (inl m) = rw (le-ltb (e % 16) n m) (omega arith)
  by_row e l (inr m) = rw (lt-ltb (e % 16) n m) (small (e % 16) (e / 16) m (omega arith))

  cell-small : (e : ℕ) → e < 16 * n → nat_abs (cell n g e) ≤ 2 ^ 40
  cell-small e l = by_row e l (le_or_lt n (e % 16))

  module _ (i j : ℕ) (l : i < n) (m : j < n) where
    abbrev the_entry : Machine (entry g i j)
    the_entry = bounded (entry g i j) (2 ^ 40) (small i j l m)

    pub negative_fits : SFits w64 (pos 0 -ℤ to_z w64 (of_z w64 (entry g i j)))
    negative_fits = let a = the_entry in machine_fits (search machs depth 9) tt

    pub negative_is : to_z w64 (of_z w64 (pos 0 -ℤ to_z w64 (of_z w64 (entry g i j)))) ≡ pos 0 -ℤ cell n g (16 * j + i)
    negative_is = let a = the_entry in machine_eq (search machs depth 9) tt (rw (cell_is n g i j l order) refl)

    pub entry_kept : to_z w64 (of_z w64 (entry g i j)) ≡ cell n g (16 * j + i)
    entry_kept = let a = the_entry in machine_eq (search machs depth 9) tt (sym (cell_is n g i j l order))

-- all cells
pub columns-filled : {n : ℕ} {g t : List ℤ} → n ≤ 16 → MayTabulate n g → Tabulated n g t (16 * n) → Columns n g t
columns-filled {n} {g} {t} order small h =
    record {
      negatives = λ e l. h.negatives e l ∙ rw (h.entries e l) refl;
      small = λ e l. rw (h.entries e l) (cell-small n g order small e l);
      entries = λ i j l m. h.entries (16 * j + i) (omega arith) ∙ cell_is n g i j l order;
    }

-- ---- adding to the sums

-- 16 numbers of the table added: `s` are the sums as the loop has them, those of the rows below i new
module _ {t : List ℤ} {place : ℕ} {s₀ : List ℤ} (h : MayAdd t place s₀) (s : List ℤ) (i : ℕ) (l : i < 16) (e : s ≡ filled (added t place s₀) s₀ i) where
  still : at s i ≡ at s₀ i
  still = rw e (filled_past (added t place s₀) s₀ i i (omega arith))

  abbrev the_sum : Machine (at s i)
  the_sum = known (at s i) (at s₀ i) (2 ^ 48) still (h.sums i l)

  abbrev the_number : Machine (at t (place + i))
  the_number = bounded (at t (place + i)) (2 ^ 40) (h.products i l)

  pub added-fits : SFits w64 (to_z w64 (of_z w64 (at s i)) +ℤ to_z w64 (of_z w64 (at t (place + i))))
  added-fits = let a = the_sum in let b = the_number in machine_fits (search machs depth 9) tt

  pub added_is : to_z w64 (of_z w64 (to_z w64 (of_z w64 (at s i)) +ℤ to_z w64 (of_z w64 (at t (place + i))))) ≡ added t place s₀ i
  added_is = let a = the_sum in let b = the_number in machine_eq (search machs depth 9) tt refl
