-- The matrix of a curve and that of a system, stored entry by entry: the laws that the proofs of
-- `place_matrix` and `place_rows` cite. That of a sum of quotients stands in `Quotients`.
use mathlib.Core.Path.{◌≡◌, refl, sym, ◌∙◌}
use mathlib.Core.Bool.{cond}
use mathlib.Core.List.{List}
use mathlib.Core.Logic.{◌⊎◌, inl, inr}
use Prim.Native.Nat.{ℕ, zero, suc, ◌+◌, ◌*◌, ◌-◌, ◌<◌, ◌≤◌}
use native.Mathlib.Omega.{arith}
use borrow.Author.Tests.{lt-ltb, le-ltb, eq-eqb, ne_eqb}
use lib.Dec.{ltb, eqb}
use lib.IntN.{ℤ, pos, neg_ℤ}
use lib.ListN.{length-replicate}
use Rattle.integers.specs.Flat.{entry, flat_matrix, stores}
use Rattle.integers.proofs.Flat.{entry-flat_matrix, length-list_from}
use Rattle.integers.proofs.Stores.{length-stores, stores_at, stores_other}
use Rattle.integers.proofs.Maximum.{le_or_lt}
use Rattle.system.specs.System.{past_first, no_denominator, curve_entry}
use Rattle.system.specs.Inner.{zeros}
use Rattle.system.proofs.Arrays.{flat_entry, past_order, matrix_is, one_place, entry-zeros}

-- ---- a curve: x after the diagonal, then the denominator's coefficients in the first column

abbrev pub argument_place : ℕ → ℕ
argument_place t = 16 * t + (t + 1)

abbrev pub denominator_place : ℕ → ℕ
denominator_place t = 16 * (t + 1)

first_column : (i : ℕ) → neg_ℤ (past_first no_denominator i) ≡ pos 0
first_column zero = refl
first_column (suc i) = refl

module _ (n : ℕ) (h : n ≤ 16) (x : ℤ) where
  abbrev with_x : List ℤ
  with_x = stores zeros argument_place (λ t. x) (n - 1)

  -- where no x is stored
  no_argument : (i j : ℕ) → i < 16 → j < 16 → ((t : ℕ) → t < n - 1 → i ≡ t → j ≡ t + 1 → ⊥) → entry with_x i j ≡ pos 0
  no_argument i j a b o =
      stores_other zeros argument_place (λ t. x) (n - 1) (16 * i + j)
      (λ t l e. let p = one_place i j t (t + 1) b (omega arith) e in o t l p.0 p.1)
      ∙ entry-zeros i j a b

  argument-entry : (i j : ℕ) → i < n → j < n → entry with_x i j ≡ curve_entry x no_denominator i j
  unfolding curve_entry
  argument-entry i zero a b = no_argument i 0 (omega arith) (omega arith) (λ t l p q. omega arith) ∙ sym (first_column i)
  argument-entry i (suc j) a b = by_order (le_or_lt j i) (le_or_lt i j)
    where
      by_order : (j ≤ i) ⊎ (i < j) → (i ≤ j) ⊎ (j < i) → entry with_x i (suc j) ≡ cond (eqb j i) x (pos 0)
      by_order (inl p) (inl q) =
          let e : j ≡ i = omega arith in
          let k : 16 * i + suc j ≡ argument_place i = omega arith in
          rw (k, eq-eqb j i e) (stores_at zeros argument_place (λ t. x) (n - 1) i (omega arith) (omega arith) (λ s l m f. omega arith))
      by_order (inr p) q = no_argument i (suc j) (omega arith) (omega arith) (λ t l e f. omega arith) ∙ rw (ne_eqb j i (λ e. omega arith))
      by_order (inl p) (inr q) = no_argument i (suc j) (omega arith) (omega arith) (λ t l e f. omega arith) ∙ rw (ne_eqb j i (λ e. omega arith))

  argument-filled : with_x ≡ flat_matrix n (curve_entry x no_denominator)
  argument-filled =
      matrix_is n (curve_entry x no_denominator) with_x h (length-stores zeros argument_place (λ t. x) (n - 1)) argument-entry
      (λ i j a b o. no_argument i j a b (outside i j o))
    where
      outside : (i j : ℕ) → (n ≤ i) ⊎ (n ≤ j) → (t : ℕ) → t < n - 1 → i ≡ t → j ≡ t + 1 → ⊥
      outside i j (inl o) t l e f = omega arith
      outside i j (inr o) t l e f = omega arith

  pub argument_placed : (f g : List ℤ) → f ≡ zeros → g ≡ stores f argument_place (λ t. x) (n - 1) → g ≡ flat_matrix n (curve_entry x no_denominator)
  argument_placed f g a b = b ∙ rw a argument-filled

  module _ (q : ℕ → ℤ) where
    abbrev value : ℕ → ℤ
    value t = neg_ℤ (q (t + 1))

    abbrev with_argument : List ℤ
    with_argument = flat_matrix n (curve_entry x no_denominator)

    abbrev with_denominator : List ℤ
    with_denominator = stores with_argument denominator_place value (n - 1)

    -- where no coefficient is stored
    no_coefficient : (i j : ℕ) → i < 16 → j < 16 → ((t : ℕ) → t < n - 1 → i ≡ t + 1 → j ≡ 0 → ⊥) → entry with_denominator i j ≡ entry with_argument i j
    no_coefficient i j a b o =
        stores_other with_argument denominator_place value (n - 1) (16 * i + j)
        (λ t l e. let p = one_place i j (t + 1) 0 b (omega arith) (omega arith) in o t l p.0 p.1)

    denominator-entry : (i j : ℕ) → i < n → j < n → entry with_denominator i j ≡ curve_entry x q i j
    unfolding curve_entry
    denominator-entry zero zero a b =
        no_coefficient 0 0 (omega arith) (omega arith) (λ t l e f. omega arith) ∙ entry-flat_matrix n (curve_entry x no_denominator) 0 0 h a b
    denominator-entry (suc i) zero a b =
        let k : 16 * suc i + 0 ≡ denominator_place i = omega arith in
        let m : i + 1 ≡ suc i = omega arith in
        rw k
        (stores_at with_argument denominator_place value (n - 1) i (omega arith) (rw (length-list_from 0 256 (flat_entry n (curve_entry x no_denominator))) (omega arith)) (λ s l m f. omega arith)
        ∙ rw m)
    denominator-entry i (suc j) a b =
        no_coefficient i (suc j) (omega arith) (omega arith) (λ t l e f. omega arith)
        ∙ entry-flat_matrix n (curve_entry x no_denominator) i (suc j) h a b

    denominator-filled : with_denominator ≡ flat_matrix n (curve_entry x q)
    denominator-filled =
        matrix_is n (curve_entry x q) with_denominator h (length-stores with_argument denominator_place value (n - 1) ∙ length-list_from 0 256 (flat_entry n (curve_entry x no_denominator)))
        denominator-entry (λ i j a b o. no_coefficient i j a b (outside i j o) ∙ past_order n (curve_entry x no_denominator) i j a b o)
      where
        outside : (i j : ℕ) → (n ≤ i) ⊎ (n ≤ j) → (t : ℕ) → t < n - 1 → i ≡ t + 1 → j ≡ 0 → ⊥
        outside i j (inl o) t l e f = omega arith
        outside i j (inr o) t l e f = omega arith

    pub denominator_placed : (f g : List ℤ) → f ≡ flat_matrix n (curve_entry x no_denominator) → g ≡ stores f denominator_place value (n - 1)
        → g ≡ flat_matrix n (curve_entry x q)
    denominator_placed f g a b = b ∙ rw a denominator-filled

-- ---- row by row

-- G's first k rows, and zeros
abbrev pub rows_below : (k : ℕ) (G : ℕ → ℕ → ℤ) (i j : ℕ) → ℤ
rows_below k G i j = cond (ltb i k) (G i j) (pos 0)

module _ (n : ℕ) (h : n ≤ 16) (G : ℕ → ℕ → ℤ) where
  pub rows_none : zeros ≡ flat_matrix n (rows_below 0 G)
  rows_none =
      matrix_is n (rows_below 0 G) zeros h (length-replicate 256 (pos 0))
      (λ i j a b. rw (le-ltb i 0 (omega arith)) (entry-zeros i j (omega arith) (omega arith))) (λ i j a b o. entry-zeros i j a b)

  pub rows_all : flat_matrix n (rows_below n G) ≡ flat_matrix n G
  rows_all =
      matrix_is n G (flat_matrix n (rows_below n G)) h (length-list_from 0 256 (flat_entry n (rows_below n G)))
      (λ i j a b. entry-flat_matrix n (rows_below n G) i j h a b ∙ rw (lt-ltb i n a)) (past_order n (rows_below n G))

  module _ (k : ℕ) (l : k < n) where
    abbrev before : List ℤ
    before = flat_matrix n (rows_below k G)

    abbrev after : List ℤ
    after = stores before (λ j. 16 * k + j) (G k) n

    other_row : (i j : ℕ) → j < 16 → (i ≡ k → ⊥) ⊎ (n ≤ j) → entry after i j ≡ entry before i j
    other_row i j b o = stores_other before (λ j. 16 * k + j) (G k) n (16 * i + j) (λ t m e. apart t m (one_place i j k t b (omega arith) e) o)
      where
        apart : (t : ℕ) → t < n → (i ≡ k) × (j ≡ t) → (i ≡ k → ⊥) ⊎ (n ≤ j) → ⊥
        apart t m p (inl f) = f p.0
        apart t m p (inr f) = omega (arith, p.1)

    row-entry : (i j : ℕ) → i < n → j < n → entry after i j ≡ rows_below (k + 1) G i j
    row-entry i j a b = by_order (le_or_lt k i) (le_or_lt i k)
      where
        by_order : (k ≤ i) ⊎ (i < k) → (i ≤ k) ⊎ (k < i) → entry after i j ≡ rows_below (k + 1) G i j
        by_order (inl p) (inl q) =
            let e : i ≡ k = omega arith in
            rw (e, lt-ltb k (k + 1) (omega arith))
            (stores_at before (λ j. 16 * k + j) (G k) n j b (rw (length-list_from 0 256 (flat_entry n (rows_below k G))) (omega arith)) (λ s c d f. omega arith))
        by_order (inr p) q =
            other_row i j (omega arith) (inl (λ e. omega arith)) ∙ entry-flat_matrix n (rows_below k G) i j h a b ∙ rw (lt-ltb i k p, lt-ltb i (k + 1) (omega arith))
        by_order (inl p) (inr q) =
            other_row i j (omega arith) (inl (λ e. omega arith)) ∙ entry-flat_matrix n (rows_below k G) i j h a b ∙ rw (le-ltb i k p, le-ltb i (k + 1) (omega arith))

    rows_more : after ≡ flat_matrix n (rows_below (k + 1) G)
    rows_more =
        matrix_is n (rows_below (k + 1) G) after h (length-stores before (λ j. 16 * k + j) (G k) n ∙ length-list_from 0 256 (flat_entry n (rows_below k G)))
        row-entry (λ i j a b o. other_row i j b (outside i j o) ∙ past_order n (rows_below k G) i j a b o)
      where
        outside : (i j : ℕ) → (n ≤ i) ⊎ (n ≤ j) → (i ≡ k → ⊥) ⊎ (n ≤ j)
        outside i j (inl o) = inl (λ e. omega arith)
        outside i j (inr o) = inr o

    -- row k is stored
    pub rows_placed : (f g : List ℤ) → f ≡ before → g ≡ stores f (λ j. 16 * k + j) (G k) n → g ≡ flat_matrix n (rows_below (k + 1) G)
    rows_placed f g a b = b ∙ rw a rows_more
