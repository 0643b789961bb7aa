-- The matrix of a sum of quotients: its entries, and how it is stored column by column. That of one order
-- more has two numbers more, in row 0 and on the diagonal. Cited by the proof of `place_quotients` and by
-- those on its value and its entries.
use mathlib.Core.Path.{◌≡◌, refl, sym, ◌∙◌}
use mathlib.Core.List.{List}
use mathlib.Core.Logic.{◌⊎◌, inl, inr}
use Prim.Native.Nat.{ℕ, zero, suc, ◌+◌, ◌*◌, ◌<◌, ◌≤◌}
use native.Mathlib.Omega.{arith}
use borrow.Author.Tests.{eq-eqb, ne_eqb}
use lib.IntN.{ℤ, pos}
use lib.ListN.{length, set, length-set, length-replicate}
use lib.Seq.{get_or-set_same, get_or-set_other}
use Rattle.integers.specs.Flat.{entry, flat_matrix}
use Rattle.integers.proofs.Flat.{entry-flat_matrix, length-list_from}
use Rattle.integers.proofs.Maximum.{le_or_lt}
use Rattle.system.specs.System.{quotients_entry}
use Rattle.system.specs.Inner.{zeros}
use Rattle.system.proofs.Arrays.{flat_entry, past_order, matrix_is, one_place, entry-zeros}

module _ (c b : ℕ → ℤ) where
  abbrev G : ℕ → ℕ → ℤ
  G = quotients_entry c b

  -- ---- the entries

  row_0_entry : (j : ℕ) → G 0 (suc j) ≡ c (suc j)
  unfolding quotients_entry
  row_0_entry j = refl

  pub diagonal : (i : ℕ) → quotients_entry c b (suc i) (suc i) ≡ b (suc i)
  unfolding quotients_entry
  diagonal i = rw (eq-eqb (suc i) (suc i) refl)

  pub off_diagonal : (i j : ℕ) → 0 < i → (j ≡ i → ⊥) → quotients_entry c b i j ≡ pos 0
  unfolding quotients_entry
  off_diagonal zero j l h = absurd (omega arith)
  off_diagonal (suc i) j l h = rw (ne_eqb j (suc i) h)

  first_entry : G 0 0 ≡ pos 0
  unfolding quotients_entry
  first_entry = refl

  -- at order 1 there is no number at all
  pub quotients-none : zeros ≡ flat_matrix 1 G
  quotients-none =
      matrix_is 1 G zeros (omega arith) (length-replicate 256 (pos 0)) (λ i j a d. entry-zeros i j (omega arith) (omega arith) ∙ sym (only i j a d))
      (λ i j a d o. entry-zeros i j a d)
    where
      only : (i j : ℕ) → i < 1 → j < 1 → G i j ≡ pos 0
      only zero zero a d = first_entry
      only (suc i) j a d = absurd (omega arith)
      only zero (suc j) a d = absurd (omega arith)

  -- ---- one column more

  module _ (k : ℕ) (l : suc k < 16) where
    abbrev before : List ℤ
    before = flat_matrix (suc k) G

    abbrev with_first : List ℤ
    with_first = set before (suc k) (c (suc k))

    abbrev after : List ℤ
    after = set with_first (16 * suc k + suc k) (b (suc k))

    size : length before ≡ 256
    size = length-list_from 0 256 (flat_entry (suc k) G)

    -- every other place is as it was
    other_place : (i j : ℕ) → j < 16 → (i ≡ 0 → j ≡ suc k → ⊥) → (i ≡ suc k → j ≡ suc k → ⊥) → entry after i j ≡ entry before i j
    other_place i j m o p =
        get_or-set_other with_first (16 * suc k + suc k) (16 * i + j) (b (suc k)) (pos 0)
        (λ e. let q = one_place i j (suc k) (suc k) m l e in p q.0 q.1)
        ∙ get_or-set_other before (suc k) (16 * i + j) (c (suc k)) (pos 0)
        (λ e. let q = one_place i j 0 (suc k) m l (omega arith) in o q.0 q.1)

    in_first_row : entry after 0 (suc k) ≡ c (suc k)
    in_first_row =
        let e : 16 * 0 + suc k ≡ suc k = omega arith in
        rw e
        (get_or-set_other with_first (16 * suc k + suc k) (suc k) (b (suc k)) (pos 0) (λ e. omega arith)
        ∙ get_or-set_same before (suc k) (c (suc k)) (pos 0) (rw size (omega arith)))

    on_diagonal : entry after (suc k) (suc k) ≡ b (suc k)
    on_diagonal =
        get_or-set_same with_first (16 * suc k + suc k) (b (suc k)) (pos 0) (rw (length-set before (suc k) (c (suc k)), size) (omega arith))

    last-column : (i : ℕ) → i < suc k → entry after i (suc k) ≡ G i (suc k)
    last-column zero h = in_first_row ∙ sym (row_0_entry k)
    last-column (suc i) h =
        other_place (suc i) (suc k) l (λ e f. omega arith) (λ e f. omega arith)
        ∙ past_order (suc k) G (suc i) (suc k) (omega arith) l (inr (omega arith))
        ∙ sym (off_diagonal (suc i) (suc k) (omega arith) (λ e. omega arith))

    inside : (i j : ℕ) → i < suc (suc k) → j < suc (suc k) → entry after i j ≡ G i j
    inside i j a d = by_order (le_or_lt (suc k) i) (le_or_lt (suc k) j)
      where
        by_order : (suc k ≤ i) ⊎ (i < suc k) → (suc k ≤ j) ⊎ (j < suc k) → entry after i j ≡ G i j
        by_order (inl p) (inl q) =
            let e : i ≡ suc k = omega arith in
            let f : j ≡ suc k = omega arith in
            rw (e, f) (on_diagonal ∙ sym (diagonal k))
        by_order (inr p) (inl q) = let f : j ≡ suc k = omega arith in rw f (last-column i p)
        by_order (inl p) (inr q) =
            other_place i j (omega arith) (λ e f. omega arith) (λ e f. omega arith)
            ∙ past_order (suc k) G i j (omega arith) (omega arith) (inl p)
            ∙ sym (off_diagonal i j (omega arith) (λ e. omega arith))
        by_order (inr p) (inr q) =
            other_place i j (omega arith) (λ e f. omega arith) (λ e f. omega arith) ∙ entry-flat_matrix (suc k) G i j (omega arith) p q

    outside : (i j : ℕ) → i < 16 → j < 16 → (suc (suc k) ≤ i) ⊎ (suc (suc k) ≤ j) → entry after i j ≡ pos 0
    outside i j a d (inl o) =
        other_place i j d (λ e f. omega arith) (λ e f. omega arith) ∙ past_order (suc k) G i j a d (inl (omega arith))
    outside i j a d (inr o) =
        other_place i j d (λ e f. omega arith) (λ e f. omega arith) ∙ past_order (suc k) G i j a d (inr (omega arith))

    column-more : after ≡ flat_matrix (suc (suc k)) G
    column-more =
        matrix_is (suc (suc k)) G after l
        (length-set with_first (16 * suc k + suc k) (b (suc k)) ∙ length-set before (suc k) (c (suc k)) ∙ size) inside outside

  -- column i is stored, from the numbers x and y that are read
  pub quotients-more : (i : ℕ) (g : List ℤ) (x y : ℤ) → 1 ≤ i → i < 16 → g ≡ flat_matrix i G → x ≡ c i → y ≡ b i
      → set (set g i x) (16 * i + i) y ≡ flat_matrix (i + 1) G
  quotients-more zero g x y some most e p q = absurd (omega arith)
  quotients-more (suc k) g x y some most e p q = let f : suc k + 1 ≡ suc (suc k) = omega arith in rw (e, p, q, f) (column-more k most)
