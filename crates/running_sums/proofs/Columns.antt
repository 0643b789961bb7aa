-- The columns that are not skipped: how many there are, and which words they have. Cited by the proofs of
-- `count_columns` and `put_sums`, and by those of the statements.
use mathlib.Core.Path.{◌≡◌, refl, sym, ◌∙◌}
use mathlib.Core.Bool.{Bool, true, false, cond}
use mathlib.Core.List.{List, [], ◌∷◌, ◌++◌, append-nil}
use Prim.Native.Nat.{ℕ, zero, suc, ◌+◌, ◌-◌, ◌*◌, ◌^◌, ◌<◌, ◌≤◌}
use native.Mathlib.Numerals.{add-one}
use native.Mathlib.Nat.{le_refl, mul-suc, mul-le-mul}
use native.Mathlib.Omega.{arith}
use borrow.Author.Tests.{eqb-true, ne_eqb}
use lib.IntN.{ℤ, pos, nat_abs, *ℤ-zero, +ℤ_idr}
use lib.ListN.{length, length-append}
use lib.Signed.{mag}
use mir.Syntax.{w8}
use mir.Val.{of_z}
use Rattle.integers.specs.Flat.{entry, list_from}
use Rattle.integers.specs.Sum.{dot}
use Rattle.integers.proofs.Absolute.{abs-zero}
use Rattle.integers.proofs.Flat.{length-list_from}
use Rattle.integers.proofs.Machine.{i8_kept}
use Rattle.integers.proofs.Product.{dot-suc, dot_ext}
use Rattle.column.specs.Column.{skipped}
use Rattle.state.proofs.Lists.{list_from_alike}
use Rattle.running_sums.specs.RunningSums.{running_sum, column_words, words_below, columns_below, word_count_below}

-- ---- a digit is 0 where its bits are all 0, and only there

pub zero-skipped : (d : ℤ) → mag d < 2 ^ 7 → of_z w8 d ≡ 0 → skipped d ≡ true
zero-skipped d h e = let z : d ≡ pos 0 = sym (i8_kept d h) ∙ rw e refl in rw z refl

pub not_skipped : (d : ℤ) → (of_z w8 d ≡ 0 → ⊥) → skipped d ≡ false
not_skipped d h = ne_eqb (nat_abs d) 0 (λ q. h (rw (abs-zero d (omega arith)) refl))

-- a column that is skipped adds nothing to a sum
pub skipped_adds_none : (row d : ℕ → ℤ) (j : ℕ) → skipped (d j) ≡ true → dot j row d ≡ dot (j + 1) row d
skipped_adds_none row d j e =
    let z : d j ≡ pos 0 = abs-zero (d j) (omega (arith, eqb-true (nat_abs (d j)) 0 e)) in
    rw (add-one j) (sym (dot-suc j row d ∙ rw (z, *ℤ-zero (row j)) (+ℤ_idr (dot j row d))))

-- ---- how many columns

module _ (d : ℕ → ℤ) where
  pub no_column : columns_below d 0 ≡ 0
  unfolding columns_below
  no_column = refl

  pub column_not_counted : (j : ℕ) → skipped (d j) ≡ true → columns_below d (j + 1) ≡ columns_below d j
  unfolding columns_below
  column_not_counted j e = rw (add-one j, e) refl

  pub column-counted : (j : ℕ) → skipped (d j) ≡ false → columns_below d (j + 1) ≡ columns_below d j + 1
  unfolding columns_below
  column-counted j e = rw (add-one j, e) refl

  one_at_most : (b : Bool) (c : ℕ) → (c ≤ cond b c (c + 1)) × (cond b c (c + 1) ≤ c + 1)
  one_at_most true c = (omega arith, omega arith)
  one_at_most false c = (omega arith, omega arith)

  pub columns-most : (j : ℕ) → columns_below d j ≤ j
  unfolding columns_below
  columns-most zero = omega arith
  columns-most (suc j) = omega (arith, columns-most j, (one_at_most (skipped (d j)) (columns_below d j)).1)

  columns_grow : (j k : ℕ) → columns_below d j ≤ columns_below d (j + k)
  unfolding columns_below
  columns_grow j zero = let e : j + 0 ≡ j = omega arith in rw e (omega arith)
  columns_grow j (suc k) =
      let e : j + suc k ≡ suc (j + k) = omega arith in
      rw e (omega (arith, columns_grow j k, (one_at_most (skipped (d (j + k))) (columns_below d (j + k))).0))

  -- and how many words they have
  module _ (n : ℕ) where
    pub words_grow : (j k : ℕ) → j ≤ k → word_count_below n d j ≤ word_count_below n d k
    words_grow j k l = let e : j + (k - j) ≡ k = omega arith in mul-le-mul (le_refl (n + 1)) (rw e at (columns_grow j (k - j)))

    pub words_most : (j : ℕ) → n ≤ 16 → j ≤ 16 → word_count_below n d j ≤ 272
    words_most j l m = let p : n + 1 ≤ 17 = omega arith in let q : columns_below d j ≤ 16 = omega (arith, columns-most j) in mul-le-mul p q

    pub words_counted : (j : ℕ) → skipped (d j) ≡ false → word_count_below n d (j + 1) ≡ word_count_below n d j + (n + 1)
    words_counted j e = rw (column-counted j e) (omega (arith, mul-suc (n + 1) (columns_below d j)))

-- ---- which words

module _ (n : ℕ) (g : List ℤ) (d : ℕ → ℤ) where
  pub no_words : words_below n g d 0 ≡ []
  unfolding words_below
  no_words = refl

  pub column_not_listed : (j : ℕ) → skipped (d j) ≡ true → words_below n g d (j + 1) ≡ words_below n g d j
  unfolding words_below
  column_not_listed j e = rw (add-one j, e) (append-nil (words_below n g d j))

  pub column_listed : (j : ℕ) → skipped (d j) ≡ false
      → words_below n g d (j + 1) ≡ words_below n g d j ++ (pos (suc j) ∷ list_from 0 n (running_sum g d (suc j)))
  unfolding words_below
  column_listed j e = rw (add-one j, e) refl

  length-column : (b : Bool) (c j : ℕ) → length (cond b [] (pos (suc j) ∷ list_from 0 n (running_sum g d (suc j)))) + (n + 1) * c ≡ (n + 1) * cond b c (c + 1)
  length-column true c j = omega arith
  length-column false c j = rw (length-list_from 0 n (running_sum g d (suc j))) (omega (arith, mul-suc (n + 1) c))

  pub length_words : (j : ℕ) → length (words_below n g d j) ≡ word_count_below n d j
  unfolding words_below columns_below
  length_words zero = omega arith
  length_words (suc j) =
      length-append (words_below n g d j) (column_words n g d j) ∙ omega (arith, length_words j, length-column (skipped (d j)) (columns_below d j) j)

-- ---- only the digits of the columns count, and the entries of these columns in the rows

module _ (d d' : ℕ → ℤ) where
  pub columns_alike : (j : ℕ) → ((i : ℕ) → i < j → d i ≡ d' i) → columns_below d j ≡ columns_below d' j
  unfolding columns_below
  columns_alike zero e = refl
  columns_alike (suc j) e = rw (columns_alike j (λ i l. e i (omega arith)), e j (omega arith)) refl

  pub words_alike : (n : ℕ) (g g' : List ℤ) (j : ℕ) → ((i : ℕ) → i < j → d i ≡ d' i) → ((i k : ℕ) → i < n → k < j → entry g i k ≡ entry g' i k)
      → words_below n g d j ≡ words_below n g' d' j
  unfolding words_below
  words_alike n g g' zero e f = refl
  words_alike n g g' (suc j) e f =
      let sums = list_from_alike 0 n (running_sum g d (suc j)) (running_sum g' d' (suc j))
      (λ i a b. dot_ext (suc j) (entry g i) (entry g' i) d d' (λ k l. f i k (omega arith) l) e) in
      rw (words_alike n g g' j (λ i l. e i (omega arith)) (λ i k l m. f i k l (omega arith)), e j (omega arith), sums) refl
