-- Arrays that are filled entry by entry hold a vector or a matrix. Cited by the proofs of `right_sides` and
-- `matrix` and by the evaluator.
use mathlib.Core.Path.{◌≡◌, sym, ap, ◌∙◌}
use mathlib.Core.Bool.{cond, ◌&&◌, and-false}
use mathlib.Core.List.{List}
use mathlib.Core.Logic.{◌⊎◌, inl, inr}
use Prim.Native.Nat.{ℕ, ◌+◌, ◌-◌, ◌*◌, ◌/◌, ◌%◌, ◌<◌, ◌≤◌}
use native.Mathlib.Numerals.{add-one}
use native.Mathlib.Omega.{arith}
use borrow.Author.Tests.{le-ltb}
use lib.Dec.{ltb}
use lib.IntN.{ℤ, pos}
use lib.ListN.{length, set, replicate, get_or-replicate}
use lib.Seq.{ext_get_or}
use Rattle.integers.specs.Flat.{at, entry, flat_vector, flat_matrix, stores}
use Rattle.integers.proofs.Flat.{at-flat_vector, entry-flat_matrix, length-list_from, getD_list_from}
use Rattle.integers.proofs.Stores.{stores-suc, length-stores, stores_at, stores_other}
use Rattle.integers.proofs.Maximum.{le_or_lt}
use Rattle.system.specs.Inner.{zeros}

-- a turn of a loop that stores one entry
pub stores-more : (g : List ℤ) (place : ℕ → ℕ) (value : ℕ → ℤ) (k : ℕ) (z : List ℤ) (x : ℤ) → z ≡ stores g place value k → x ≡ value k
    → set z (place k) x ≡ stores g place value (k + 1)
stores-more g place value k z x e f = rw (e, f, add-one) (sym (stores-suc g place value k))

-- the same, of a loop that counts from 1
pub stores_next : (g : List ℤ) (place : ℕ → ℕ) (value : ℕ → ℤ) (i p : ℕ) (z : List ℤ) (x : ℤ) → 1 ≤ i → p ≡ place (i - 1)
    → z ≡ stores g place value (i - 1) → x ≡ value (i - 1) → set z p x ≡ stores g place value (i + 1 - 1)
stores_next g place value i p z x h s e f =
    let m : i + 1 - 1 ≡ i - 1 + 1 = omega arith in
    rw (s, m) (stores-more g place value (i - 1) z x e f)

-- ---- a vector

-- an array with the entries of a vector is the vector's
vector_is : (n : ℕ) (B : ℕ → ℤ) (z : List ℤ) → n ≤ 16 → length z ≡ 16 → ((i : ℕ) → i < n → at z i ≡ B i) → ((i : ℕ) → i < 16 → n ≤ i → at z i ≡ pos 0)
    → z ≡ flat_vector n B
vector_is n B z h size inside outside =
    ext_get_or (pos 0) z (flat_vector n B) (size ∙ sym (length-list_from 0 16 (λ i. cond (ltb i n) (B i) (pos 0)))) (λ i l. same i (rw size at l) (le_or_lt n i))
  where
    same : (i : ℕ) → i < 16 → (n ≤ i) ⊎ (i < n) → at z i ≡ at (flat_vector n B) i
    same i l (inl m) =
        let e : 0 + i ≡ i = omega arith in
        outside i l m ∙ sym (getD_list_from 0 16 (λ i. cond (ltb i n) (B i) (pos 0)) i l ∙ rw (e, le-ltb i n m))
    same i l (inr m) = inside i m ∙ sym (at-flat_vector n B i h m)

-- the first n places of zeros, each stored to
pub vector_stored : (n : ℕ) (B : ℕ → ℤ) → n ≤ 16 → stores (replicate 16 (pos 0)) (λ t. t) B n ≡ flat_vector n B
vector_stored n B h =
    vector_is n B (stores (replicate 16 (pos 0)) (λ t. t) B n) h (length-stores (replicate 16 (pos 0)) (λ t. t) B n)
    (λ i m. stores_at (replicate 16 (pos 0)) (λ t. t) B n i m (omega arith) (λ s a b e. omega arith))
    (λ i l m. stores_other (replicate 16 (pos 0)) (λ t. t) B n i (λ t a e. omega arith) ∙ get_or-replicate 16 i (pos 0) (pos 0) l)

-- ---- a matrix

module _ (n : ℕ) (G : ℕ → ℕ → ℤ) where
  abbrev pub flat_entry : ℕ → ℤ
  flat_entry k = cond (ltb (k / 16) n && ltb (k % 16) n) (G (k / 16) (k % 16)) (pos 0)

  -- past the order there are zeros
  pub past_order : (i j : ℕ) → i < 16 → j < 16 → (n ≤ i) ⊎ (n ≤ j) → entry (flat_matrix n G) i j ≡ pos 0
  past_order i j a b h =
      let e : 0 + (16 * i + j) ≡ 16 * i + j = omega arith in
      let p : (16 * i + j) / 16 ≡ i = omega arith in
      let q : (16 * i + j) % 16 ≡ j = omega arith in
      getD_list_from 0 256 flat_entry (16 * i + j) (omega arith) ∙ rw (e, p, q) (by_side h)
    where
      by_side : (n ≤ i) ⊎ (n ≤ j) → cond (ltb i n && ltb j n) (G i j) (pos 0) ≡ pos 0
      by_side (inl l) = rw (le-ltb i n l)
      by_side (inr l) = rw (le-ltb j n l, and-false (ltb i n))

  -- an array with the entries of a matrix is the matrix's
  pub matrix_is : (g : List ℤ) → n ≤ 16 → length g ≡ 256 → ((i j : ℕ) → i < n → j < n → entry g i j ≡ G i j)
      → ((i j : ℕ) → i < 16 → j < 16 → (n ≤ i) ⊎ (n ≤ j) → entry g i j ≡ pos 0) → g ≡ flat_matrix n G
  matrix_is g h size inside outside =
      ext_get_or (pos 0) g (flat_matrix n G) (size ∙ sym (length-list_from 0 256 flat_entry)) (λ k l. rows k (rw size at l))
    where
      same : (i j : ℕ) → i < 16 → j < 16 → (n ≤ i) ⊎ (i < n) → (n ≤ j) ⊎ (j < n) → entry g i j ≡ entry (flat_matrix n G) i j
      same i j a b (inl l) m = outside i j a b (inl l) ∙ sym (past_order i j a b (inl l))
      same i j a b (inr l) (inl m) = outside i j a b (inr m) ∙ sym (past_order i j a b (inr m))
      same i j a b (inr l) (inr m) = inside i j l m ∙ sym (entry-flat_matrix n G i j h l m)

      rows : (k : ℕ) → k < 256 → at g k ≡ at (flat_matrix n G) k
      rows k l =
          let e : 16 * (k / 16) + k % 16 ≡ k = omega arith in
          rw e at (same (k / 16) (k % 16) (omega arith) (omega arith) (le_or_lt n (k / 16)) (le_or_lt n (k % 16)))

-- a place has one row and one column
pub one_place : (i j a b : ℕ) → j < 16 → b < 16 → 16 * i + j ≡ 16 * a + b → (i ≡ a) × (j ≡ b)
one_place i j a b h k e =
    let p : (16 * i + j) / 16 ≡ i = omega arith in
    let q : (16 * a + b) / 16 ≡ a = omega arith in
    let r : i ≡ a = sym p ∙ ap (λ m. m / 16) e ∙ q in
    (r, omega arith)

pub entry-zeros : (i j : ℕ) → i < 16 → j < 16 → entry zeros i j ≡ pos 0
entry-zeros i j a b = get_or-replicate 256 (16 * i + j) (pos 0) (pos 0) (omega arith)
