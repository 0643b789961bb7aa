-- A column added to the rows' sums. Cited by the proofs of `sum_after`, `add_column` and `add_entries`, and,
-- from `AddedBelow` on, where columns are added one after the other.
use mathlib.Core.Path.{◌≡◌, refl, sym, ap, ◌∙◌}
use mathlib.Core.List.{List}
use mathlib.Core.Logic.{◌⊎◌, inl, inr}
use Prim.Native.Nat.{ℕ, ◌+◌, ◌-◌, ◌^◌, ◌<◌, ◌≤◌}
use native.Mathlib.Numerals.{add-one}
use native.Mathlib.Omega.{arith}
use lib.IntN.{ℤ, pos, nat_abs, ◌+ℤ◌, ◌*ℤ◌, zero-*ℤ, *ℤ-zero, +ℤ_idr}
use lib.ListN.{length, set, length-set}
use lib.Seq.{get_or-set_same, get_or-set_other}
use mir.Syntax.{w64}
use mir.Val.{SFits, to_z, of_z}
use Rattle.integers.specs.Sum.{Within, dot}
use Rattle.integers.specs.Flat.{at, entry, stores}
use Rattle.integers.proofs.Machine.{Machine, known, bounded, machs, machine_fits, machine_eq}
use Rattle.integers.proofs.Maximum.{le_or_lt}
use Rattle.integers.proofs.Product.{dot-suc}
use Rattle.integers.proofs.Stores.{stores-zero, length-stores, stores_at, stores_other}
use Rattle.system.proofs.Arrays.{stores-more}
use Rattle.column.specs.Column.{column, Zeros, MayAddColumn, column_added, first_added, entries_added}

-- ---- a row's sum after a column

module _ (s e d : ℤ) (hs : Within s (2 ^ 48)) (he : Within e (2 ^ 40)) (hd : Within d 15) where
  pub product-fits : SFits w64 (to_z w64 (of_z w64 e) *ℤ to_z w64 (of_z w64 d))
  product-fits = machine_fits (search machs depth 9) tt

  pub sum_fits : SFits w64 (to_z w64 (of_z w64 s) +ℤ to_z w64 (of_z w64 (to_z w64 (of_z w64 e) *ℤ to_z w64 (of_z w64 d))))
  sum_fits = machine_fits (search machs depth 12) tt

  pub sum_is : to_z w64 (of_z w64 (to_z w64 (of_z w64 s) +ℤ to_z w64 (of_z w64 (to_z w64 (of_z w64 e) *ℤ to_z w64 (of_z w64 d))))) ≡ s +ℤ e *ℤ d
  sum_is = machine_eq (search machs depth 12) tt refl

  -- where the column is skipped
  pub skipped_is : of_z w64 d ≡ 0 → to_z w64 (of_z w64 s) ≡ s +ℤ e *ℤ d
  skipped_is z =
      let m : to_z w64 (of_z w64 d) ≡ d = machine_eq (search machs depth 9) tt refl in
      let k : d ≡ pos 0 = sym m ∙ rw z refl in
      let a : to_z w64 (of_z w64 s) ≡ s = machine_eq (search machs depth 9) tt refl in
      rw (k, *ℤ-zero e, +ℤ_idr s) a

sum_kept : (x y z : ℤ) → nat_abs x ≤ 2 ^ 48 → nat_abs y ≤ 2 ^ 40 → nat_abs z ≤ 15 → to_z w64 (of_z w64 (x +ℤ y *ℤ z)) ≡ x +ℤ y *ℤ z
sum_kept x y z l m n =
    let p = bounded x (2 ^ 48) l in let q = bounded y (2 ^ 40) m in let r = bounded z 15 n in
    machine_eq (search machs depth 12) tt refl

pub digit-kept : (d : ℤ) → nat_abs d ≤ 15 → to_z w64 (of_z w64 d) ≡ d
digit-kept d h = let m = bounded d 15 h in machine_eq (search machs depth 9) tt refl

-- ---- the rows of a column, one after the other: `s` has the sums of the rows below i added

module _ {g s₀ : List ℤ} {j lo hi : ℕ} {d : ℤ} (h : MayAddColumn g j lo hi d s₀) (s : List ℤ) (i : ℕ) (a : lo ≤ i) (b : i < hi)
    (e : s ≡ stores s₀ (λ t. lo + t) (column_added g j lo d s₀) (i - lo)) where
  still : at s i ≡ at s₀ i
  still = rw e (stores_other s₀ (λ t. lo + t) (column_added g j lo d s₀) (i - lo) i (λ t l q. omega arith))

  abbrev the_sum : Machine (at s i)
  the_sum = known (at s i) (at s₀ i) (2 ^ 48) still (h.sums i a b)

  abbrev the_entry : Machine (entry g i j)
  the_entry = bounded (entry g i j) (2 ^ 40) (h.entries i a b)

  sum_read : to_z w64 (of_z w64 (at s i)) ≡ at s₀ i
  sum_read = let m = the_sum in machine_eq (search machs depth 9) tt refl

  entry_read : to_z w64 (of_z w64 (entry g i j)) ≡ entry g i j
  entry_read = let m = the_entry in machine_eq (search machs depth 9) tt refl

  pub may-add-row : Within (to_z w64 (of_z w64 (at s i))) (2 ^ 48) × Within (to_z w64 (of_z w64 (entry g i j))) (2 ^ 40) × Within (to_z w64 (of_z w64 d)) 15
  may-add-row = (
    record { abs = rw sum_read (h.sums i a b) },
    record { abs = rw entry_read (h.entries i a b) },
    record { abs = rw (digit-kept d h.digit) h.digit },
  )

  -- `x` is what `sum_after` gave
  pub row-added : (x : ℤ) → x ≡ to_z w64 (of_z w64 (at s i)) +ℤ to_z w64 (of_z w64 (entry g i j)) *ℤ to_z w64 (of_z w64 d)
      → set s i (to_z w64 (of_z w64 x)) ≡ stores s₀ (λ t. lo + t) (column_added g j lo d s₀) (i + 1 - lo)
  row-added x k =
      let p : lo + (i - lo) ≡ i = omega arith in
      let q : i + 1 - lo ≡ i - lo + 1 = omega arith in
      let r : x ≡ at s₀ i +ℤ entry g i j *ℤ d = k ∙ rw (sum_read, entry_read, digit-kept d h.digit) refl in
      let v : to_z w64 (of_z w64 x) ≡ column_added g j lo d s₀ (i - lo) =
      ap (λ (y : ℤ). to_z w64 (of_z w64 y)) r ∙ sum_kept (at s₀ i) (entry g i j) d (h.sums i a b) (h.entries i a b) h.digit ∙ rw p refl in
      let m = stores-more s₀ (λ t. lo + t) (column_added g j lo d s₀) (i - lo) s (to_z w64 (of_z w64 x)) e v in
      rw q (rw p at m)

-- none
pub no_row-added : (g s : List ℤ) (j lo hi : ℕ) (d : ℤ) → hi ≤ lo → s ≡ stores s (λ t. lo + t) (column_added g j lo d s) (hi - lo)
no_row-added g s j lo hi d l =
    let e : hi - lo ≡ 0 = omega arith in
    rw e (sym (stores-zero s (λ t. lo + t) (column_added g j lo d s)))

-- ---- a column by its entries: `x` is what `sum_after` gave of the first, and then the others are added

module _ {g s : List ℤ} {e : ℤ} {j lo next hi : ℕ} {d : ℤ} (h : MayAddColumn g j next hi d s) (l : lo < next) (hs : Within (at s lo) (2 ^ 48)) (he : Within e (2 ^ 40))
    (x : ℤ) (k : x ≡ to_z w64 (of_z w64 (at s lo)) +ℤ to_z w64 (of_z w64 e) *ℤ to_z w64 (of_z w64 d)) where
  first_kept : to_z w64 (of_z w64 x) ≡ at s lo +ℤ e *ℤ d
  first_kept =
      let a : to_z w64 (of_z w64 (at s lo)) ≡ at s lo = machine_eq (search machs depth 9) tt refl in
      let b : to_z w64 (of_z w64 e) ≡ e = machine_eq (search machs depth 9) tt refl in
      rw (k, a, b, digit-kept d h.digit) (sum_kept (at s lo) e d hs.abs he.abs h.digit)

  pub may-add-later : MayAddColumn g j next hi (to_z w64 (of_z w64 d)) (set s lo (to_z w64 (of_z w64 x)))
  may-add-later =
      rw (digit-kept d h.digit)
      (record {
        column = h.column;
        last = h.last;
        sums = λ i m q. rw (get_or-set_other s lo i (to_z w64 (of_z w64 x)) (pos 0) (λ r. omega arith)) (h.sums i m q);
        entries = h.entries;
        digit = h.digit;
      })

  pub entries_are : {s₂ : List ℤ}
      → s₂ ≡ stores (set s lo (to_z w64 (of_z w64 x))) (λ t. next + t) (column_added g j next (to_z w64 (of_z w64 d)) (set s lo (to_z w64 (of_z w64 x)))) (hi - next)
      → s₂ ≡ entries_added g e j lo next hi d s
  entries_are q = rw (first_kept, digit-kept d h.digit) at q

-- ---- one column more: from sums s over the columns below j to sums s' over those below j + 1

-- s' has column j added in the rows below n, and is else as s
pub record AddedBelow (n j : ℕ) (g s s' : List ℤ) (d : ℤ) : Type 0 where
  pub size : length s' ≡ length s
  pub row : (i : ℕ) → i < n → at s' i ≡ at s i +ℤ entry g i j *ℤ d
  pub past : (i : ℕ) → n ≤ i → at s' i ≡ at s i

pub column-next : {n j : ℕ} {g s s' : List ℤ} (d : ℕ → ℤ) → AddedBelow n j g s s' (d j) → ((i : ℕ) → i < n → at s i ≡ dot j (entry g i) d)
    → (i : ℕ) → i < n → at s' i ≡ dot (j + 1) (entry g i) d
column-next {j = j} {g = g} d r h i l = rw add-one (r.row i l ∙ rw (h i l) (sym (dot-suc j (entry g i) d)))

-- a row that keeps its sum, since its entry is 0
row_kept : (x y e d : ℤ) → y ≡ x → e ≡ pos 0 → y ≡ x +ℤ e *ℤ d
row_kept x y e d p z = p ∙ rw (z, zero-*ℤ d) (sym (+ℤ_idr x))

-- the rows from lo on and below hi: the entries in the others are 0
module _ (n j lo hi : ℕ) (g s s' : List ℤ) (d : ℤ) (room : n ≤ length s) (last : hi ≤ n) (before : Zeros (column g j) 0 lo) (after : Zeros (column g j) hi n)
    (e : s' ≡ stores s (λ t. lo + t) (column_added g j lo d s) (hi - lo)) where
  other : (i : ℕ) → ((t : ℕ) → t < hi - lo → i ≡ lo + t → ⊥) → at s' i ≡ at s i
  other i o = rw e (stores_other s (λ t. lo + t) (column_added g j lo d s) (hi - lo) i o)

  span_row : (i : ℕ) → i < n → (lo ≤ i) ⊎ (i < lo) → (hi ≤ i) ⊎ (i < hi) → at s' i ≡ at s i +ℤ entry g i j *ℤ d
  span_row i l (inr m) q = row_kept (at s i) (at s' i) (entry g i j) d (other i (λ t o r. omega arith)) (before i (omega arith) m)
  span_row i l (inl m) (inl q) = row_kept (at s i) (at s' i) (entry g i j) d (other i (λ t o r. omega arith)) (after i q l)
  span_row i l (inl m) (inr q) =
      let p : lo + (i - lo) ≡ i = omega arith in
      let v = stores_at s (λ t. lo + t) (column_added g j lo d s) (hi - lo) (i - lo) (omega arith) (omega (arith, room)) (λ t x y z. omega arith) in
      rw e (rw p at v)

  pub span_rows : AddedBelow n j g s s' d
  span_rows =
      record {
        size = rw e (length-stores s (λ t. lo + t) (column_added g j lo d s) (hi - lo));
        row = λ i l. span_row i l (le_or_lt lo i) (le_or_lt hi i);
        past = λ i l. other i (λ t m q. omega arith);
      }

-- the first entry, in row lo, and those from row next on and below hi: between them there are none
module _ (n j lo next hi : ℕ) (g s s' : List ℤ) (x d : ℤ) (room : n ≤ length s) (first : lo < n) (apart : lo < next) (last : hi ≤ n)
    (before : Zeros (column g j) 0 lo) (between : Zeros (column g j) (lo + 1) next) (after : Zeros (column g j) hi n) (f : x ≡ entry g lo j)
    (e : s' ≡ entries_added g x j lo next hi d s) where
  abbrev begun : List ℤ
  begun = first_added x lo d s

  begun_first : at begun lo ≡ at s lo +ℤ x *ℤ d
  begun_first = get_or-set_same s lo (at s lo +ℤ x *ℤ d) (pos 0) (omega (arith, room))

  begun_other : (i : ℕ) → (i ≡ lo → ⊥) → at begun i ≡ at s i
  begun_other i o = get_or-set_other s lo i (at s lo +ℤ x *ℤ d) (pos 0) o

  not_later : (i : ℕ) → ((t : ℕ) → t < hi - next → i ≡ next + t → ⊥) → at s' i ≡ at begun i
  not_later i o = rw e (stores_other begun (λ t. next + t) (column_added g j next d begun) (hi - next) i o)

  kept : (i : ℕ) → ((t : ℕ) → t < hi - next → i ≡ next + t → ⊥) → (i ≡ lo → ⊥) → entry g i j ≡ pos 0 → at s' i ≡ at s i +ℤ entry g i j *ℤ d
  kept i o q z = row_kept (at s i) (at s' i) (entry g i j) d (not_later i o ∙ begun_other i q) z

  -- a row before next
  early_row : (i : ℕ) → i < next → (lo ≤ i) ⊎ (i < lo) → (lo + 1 ≤ i) ⊎ (i < lo + 1) → at s' i ≡ at s i +ℤ entry g i j *ℤ d
  early_row i l (inr m) q = kept i (λ t o r. omega arith) (λ r. omega arith) (before i (omega arith) m)
  early_row i l (inl m) (inl q) = kept i (λ t o r. omega arith) (λ r. omega arith) (between i q l)
  early_row i l (inl m) (inr q) =
      let p : i ≡ lo = omega arith in
      rw p (not_later lo (λ t o r. omega arith) ∙ begun_first ∙ rw f refl)

  -- and from it on
  later-row : (i : ℕ) → i < n → next ≤ i → (hi ≤ i) ⊎ (i < hi) → at s' i ≡ at s i +ℤ entry g i j *ℤ d
  later-row i l m (inl q) = kept i (λ t o r. omega arith) (λ r. omega arith) (after i q l)
  later-row i l m (inr q) =
      let p : next + (i - next) ≡ i = omega arith in
      let w : length begun ≡ length s = length-set s lo (at s lo +ℤ x *ℤ d) in
      let v = stores_at begun (λ t. next + t) (column_added g j next d begun) (hi - next) (i - next) (omega arith) (omega (arith, room, w)) (λ t y z r. omega arith) in
      rw e ((rw p at v) ∙ rw (begun_other i (λ r. omega arith)) refl)

  pub entry-rows : AddedBelow n j g s s' d
  entry-rows =
      record {
        size = rw e (length-stores begun (λ t. next + t) (column_added g j next d begun) (hi - next) ∙ length-set s lo (at s lo +ℤ x *ℤ d));
        row = λ i l. by_next i l (le_or_lt next i);
        past = λ i l. not_later i (λ t m q. omega arith) ∙ begun_other i (λ r. omega arith);
      }
    where
      by_next : (i : ℕ) → i < n → (next ≤ i) ⊎ (i < next) → at s' i ≡ at s i +ℤ entry g i j *ℤ d
      by_next i l (inl m) = later-row i l m (le_or_lt hi i)
      by_next i l (inr m) = early_row i m (le_or_lt lo i) (le_or_lt (lo + 1) i)
