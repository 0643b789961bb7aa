-- The rows' sums, one column after the other: how they begin, with column 0 or with none, one column more,
-- and when all are added. Cited by the proofs of `begin_sums`, `column_sums` and `first_sums`.
use mathlib.Core.Path.{◌≡◌, refl, sym, ap, ◌∙◌}
use mathlib.Core.List.{List, [], ◌∷◌}
use mathlib.Core.Logic.{◌⊎◌, inl, inr}
use Prim.Native.Nat.{ℕ, ◌+◌, ◌-◌, ◌*◌, ◌^◌, ◌<◌, ◌≤◌}
use native.Mathlib.Omega.{arith}
use lib.IntN.{ℤ, pos, nat_abs, ◌+ℤ◌, ◌*ℤ◌, +ℤ_idl}
use lib.ListN.{length, get_or, replicate}
use lib.Seq.{ext_get_or}
use mir.Syntax.{w8, w64}
use mir.Val.{to_z, of_z}
use Rattle.integers.specs.Sum.{Within, dot, weight}
use Rattle.integers.specs.Flat.{at, entry, stores}
use Rattle.integers.proofs.Machine.{bounded, machs, machine_eq}
use Rattle.integers.proofs.Maximum.{le_or_lt}
use Rattle.integers.proofs.Normal.{solve, polys}
use Rattle.integers.proofs.Product.{dot-zero, dot-suc, abs-dot, weight_le, entry_le_weight}
use Rattle.column.specs.Column.{MayAddColumn, column_added, entries_added}
use Rattle.column.specs.declared.Span.{Span}
use Rattle.column.proofs.Added.{AddedBelow, column-next, span_rows, entry-rows}
use Rattle.integers.specs.Flat.{filled}
use Rattle.spans.specs.Inner.{row_dot, MaySum, MaySumRows, Start, End, IsSpan, MayBegin, Begun, first_product}
use Rattle.integers.proofs.Filled.{length-filled, filled_past, filled_row, at-zeros}

-- ---- what may be summed is small

module _ {g d : List ℤ} {i n : ℕ} (h : MaySum g i n d) where
  entry-small : (j : ℕ) → j < n → nat_abs (entry g i j) ≤ 2 ^ 40
  entry-small j l = omega (arith, entry_le_weight n (entry g i) j l, h.light)

  part_small : (j : ℕ) → j ≤ n → nat_abs (dot j (entry g i) (at d)) ≤ 2 ^ 48
  part_small j l =
      let w : weight j (entry g i) ≤ j * 2 ^ 40 = weight_le j (entry g i) (2 ^ 40) (λ k m. entry-small k (omega arith)) in
      omega (arith, abs-dot j (entry g i) (at d) 15 (λ k m. h.digits k (omega arith)), h.order)

-- ---- column 0

-- row i of column 0 as it is read
module _ {n : ℕ} {g : List ℤ} {d : ℤ} (h : MayBegin n g d) (i : ℕ) (l : i < n) where
  abbrev first_entry : ℤ
  first_entry = get_or g (16 * i) (pos 0)

  entry_is : first_entry ≡ entry g i 0
  entry_is = let e : 16 * i ≡ 16 * i + 0 = omega arith in ap (λ (t : ℕ). get_or g t (pos 0)) e

  entry_read : to_z w64 (of_z w64 first_entry) ≡ entry g i 0
  entry_read = let a = bounded (entry g i 0) (2 ^ 40) (h.entries i l) in rw entry_is (machine_eq (search machs depth 9) tt refl)

  digit_read : to_z w64 (of_z w64 d) ≡ d
  digit_read = let a = bounded d 15 h.digit in machine_eq (search machs depth 9) tt refl

  pub may_begin_row : Within (pos 0) (2 ^ 48) × Within (to_z w64 (of_z w64 first_entry)) (2 ^ 40) × Within (to_z w64 (of_z w64 d)) 15
  may_begin_row = (record { abs = omega arith }, record { abs = rw entry_read (h.entries i l) }, record { abs = rw digit_read h.digit })

  product-kept : (x y : ℤ) → nat_abs x ≤ 2 ^ 40 → nat_abs y ≤ 15 → to_z w64 (of_z w64 (x *ℤ y)) ≡ x *ℤ y
  product-kept x y a b = let p = bounded x (2 ^ 40) a in let q = bounded y 15 b in machine_eq (search machs depth 9) tt refl

  -- `x` is what `sum_after` gave
  pub row_begun : (x : ℤ) → x ≡ pos 0 +ℤ to_z w64 (of_z w64 first_entry) *ℤ to_z w64 (of_z w64 d) → to_z w64 (of_z w64 x) ≡ first_product g d i
  row_begun x e =
      let k : x ≡ entry g i 0 *ℤ d = e ∙ rw (entry_read, digit_read) (+ℤ_idl (entry g i 0 *ℤ d)) in
      ap (λ (y : ℤ). to_z w64 (of_z w64 y)) k ∙ product-kept (entry g i 0) d (h.entries i l) h.digit

-- from the products, put into v, or from 0 where the column has no entry
pub begun_products : {n : ℕ} {g : List ℤ} {d : ℤ} (v : List ℤ) {s : List ℤ} → n ≤ 16 → length v ≡ 16 → s ≡ filled (first_product g d) v n → Begun n g d s
begun_products {n} {g} {d} v order size e =
    record {
      size = rw e (length-filled (first_product g d) v n ∙ size);
      rows = λ i l. rw e (filled_row (first_product g d) v n i l (omega (arith, size)));
    }

pub begun_none : {n : ℕ} {g : List ℤ} (d : ℤ) {span : Span} → n ≤ 16 → IsSpan n g 0 span → span.end ≤ span.start → Begun n g d (replicate 16 (pos 0))
begun_none {n} {g} d {span} order a h =
    record { size = refl; rows = λ i l. at-zeros i ∙ sym (rw (none i l (le_or_lt span.end i)) (zero-product d)) }
  where
    none : (i : ℕ) → i < n → (span.end ≤ i) ⊎ (i < span.end) → entry g i 0 ≡ pos 0
    none i l (inl m) = a.ends.1 i m l
    none i l (inr m) = a.starts.1 i (omega arith) (omega arith)

    zero-product : (d : ℤ) → pos 0 *ℤ d ≡ pos 0
    zero-product d = solve (d ∷ []) (search polys depth 9) (search polys depth 9) tt

-- ---- the columns below j

-- s has the sums of the rows below n over the columns below j, and past them what s₀ has
pub record SoFar (n j : ℕ) (g d s₀ s : List ℤ) : Type 0 where
  pub size : length s ≡ 16
  pub rows : (i : ℕ) → i < n → at s i ≡ row_dot j g d i
  pub past : (i : ℕ) → n ≤ i → at s i ≡ at s₀ i

-- none, and sums of 0
pub sums_none : (n : ℕ) (g d : List ℤ) → SoFar n 0 g d (replicate 16 (pos 0)) (replicate 16 (pos 0))
sums_none n g d =
    record { size = refl; rows = λ i l. at-zeros i ∙ sym (dot-zero (entry g i) (at d)); past = λ i l. refl }

module _ {n : ℕ} {g d : List ℤ} (order : n ≤ 16) (h : MaySumRows n g d) where
  -- a digit as it is lent on: `x` is the i64 made of it
  lent : (j : ℕ) → j < n → (x : ℤ) → x ≡ to_z w8 (of_z w8 (at d j)) → to_z w64 (of_z w64 x) ≡ at d j
  lent j l x e =
      let b = bounded (at d j) 15 ((h j l).digits j l) in
      let k : x ≡ at d j = e ∙ machine_eq (search machs depth 9) tt refl in
      rw k (machine_eq (search machs depth 9) tt refl)

  pub may_begin : 0 < n → (x : ℤ) → x ≡ to_z w8 (of_z w8 (at d 0)) → MayBegin n g (to_z w64 (of_z w64 x))
  may_begin a x e =
      record { entries = λ i l. entry-small (h i l) 0 a; digit = rw (lent 0 a x e) ((h 0 a).digits 0 a) }

  pub sums_begun : {s : List ℤ} → 0 < n → (x : ℤ) → x ≡ to_z w8 (of_z w8 (at d 0)) → Begun n g (to_z w64 (of_z w64 x)) s → SoFar n 1 g d s s
  sums_begun a x ex k =
      record { size = k.size; rows = λ i l. k.rows i l ∙ rw (lent 0 a x ex) (one i); past = λ i l. refl }
    where
      one : (i : ℕ) → entry g i 0 *ℤ at d 0 ≡ dot 1 (entry g i) (at d)
      one i = sym (dot-suc 0 (entry g i) (at d) ∙ rw (dot-zero (entry g i) (at d)) (+ℤ_idl (entry g i 0 *ℤ at d 0)))

  -- one column more: `x` is the i64 made of its digit
  module _ {j : ℕ} {s₀ s : List ℤ} (l : j < n) (f : SoFar n j g d s₀ s) (x : ℤ) (ex : x ≡ to_z w8 (of_z w8 (at d j))) where
    digit_is : to_z w64 (of_z w64 x) ≡ at d j
    digit_is = lent j l x ex

    room : n ≤ length s
    room = omega (arith, f.size)

    sum-small : (i : ℕ) → i < n → nat_abs (at s i) ≤ 2 ^ 48
    sum-small i m = rw (f.rows i m) (part_small (h i m) j (omega arith))

    pub may-add-next : {lo hi : ℕ} → End n g j hi → MayAddColumn g j lo hi (to_z w64 (of_z w64 x)) s
    may-add-next b =
        record {
          column = omega arith;
          last = omega (arith, b.0);
          sums = λ i p q. sum-small i (omega (arith, b.0));
          entries = λ i p q. entry-small (h i (omega (arith, b.0))) j l;
          digit = rw digit_is ((h j l).digits j l);
        }

    next_so_far : {s' : List ℤ} → AddedBelow n j g s s' (at d j) → SoFar n (j + 1) g d s₀ s'
    next_so_far r = record { size = r.size ∙ f.size; rows = column-next (at d) r f.rows; past = λ i m. r.past i m ∙ f.past i m }

    -- `s'` is what `add_column` left
    pub sums-more : {lo hi : ℕ} {s' : List ℤ} → Start n g j lo → End n g j hi → s' ≡ stores s (λ t. lo + t) (column_added g j lo (to_z w64 (of_z w64 x)) s) (hi - lo)
        → SoFar n (j + 1) g d s₀ s'
    sums-more {lo} {hi} {s'} a b e = next_so_far (span_rows n j lo hi g s s' (at d j) room b.0 a.1 b.1 (rw digit_is at e))

    -- its span, and what `add_entries` left
    module _ {span : Span} (a : IsSpan n g j span) where
      pub may-add-entries : MayAddColumn g j span.next span.end (to_z w64 (of_z w64 x)) s × (span.start < span.next) × (span.start < 16) × Within (at s span.start) (2 ^ 48) × Within span.first (2 ^ 40)
      may-add-entries = (
        may-add-next a.ends,
        a.next.0,
        omega (arith, a.starts.0),
        record { abs = sum-small span.start a.starts.0 },
        record { abs = rw a.first (entry-small (h span.start a.starts.0) j l) },
      )

      pub entries-more : {s' : List ℤ} → s' ≡ entries_added g span.first j span.start span.next span.end (to_z w64 (of_z w64 x)) s → SoFar n (j + 1) g d s₀ s'
      entries-more {s'} e =
          next_so_far (entry-rows n j span.start span.next span.end g s s' span.first (at d j) room a.starts.0 a.next.0 a.ends.0 a.starts.1 a.next.1 a.ends.1 a.first (rw digit_is at e))

  -- all columns: s₁ is what the sums began from
  pub sums_done : (s : List ℤ) {s₁ s₂ : List ℤ} → length s ≡ 16 → ((i : ℕ) → n ≤ i → at s₁ i ≡ at s i) → SoFar n n g d s₁ s₂ → s₂ ≡ filled (row_dot n g d) s n
  sums_done s {s₁} {s₂} size k f =
      ext_get_or (pos 0) s₂ (filled (row_dot n g d) s n) (f.size ∙ sym (length-filled (row_dot n g d) s n ∙ size)) (λ i l. same i (omega (arith, f.size)) (le_or_lt n i))
    where
      same : (i : ℕ) → i < 16 → (n ≤ i) ⊎ (i < n) → at s₂ i ≡ at (filled (row_dot n g d) s n) i
      same i l (inl m) = f.past i m ∙ k i m ∙ sym (filled_past (row_dot n g d) s n i m)
      same i l (inr m) = f.rows i m ∙ sym (filled_row (row_dot n g d) s n i m (omega (arith, size)))
