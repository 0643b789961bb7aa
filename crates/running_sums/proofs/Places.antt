-- Where the words of a column stand among those of all columns, and that the last sums are those over all
-- columns. Cited by the proofs of the statements.
use mathlib.Core.Path.{◌≡◌, refl, sym, ◌∙◌}
use mathlib.Core.Bool.{Bool, true, false, cond}
use mathlib.Core.List.{List, [], ◌∷◌}
use Prim.Native.Nat.{ℕ, zero, suc, ◌+◌, ◌-◌, ◌<◌}
use native.Mathlib.Numerals.{add-one}
use native.Mathlib.Omega.{arith}
use borrow.Author.Tests.{ne_eqb}
use lib.Dec.{eqb}
use lib.IntN.{ℤ, pos}
use lib.ListN.{length, get_or-append}
use lib.Seq.{get_or_at, get_or-append-add}
use Rattle.integers.specs.Flat.{at, entry, list_from}
use Rattle.integers.proofs.Flat.{getD_list_from}
use Rattle.integers.proofs.Product.{dot-zero}
use Rattle.column.specs.Column.{skipped}
use Rattle.running_sums.specs.RunningSums.{running_sum, column_words, words_below, columns_below, word_count_below}
use Rattle.running_sums.proofs.Columns.{skipped_adds_none, no_column, column_not_counted, words_grow, words_counted, column_not_listed, column_listed, length_words}

module _ (n : ℕ) (g : List ℤ) (d : ℕ → ℤ) where
  -- the words of the columns below j stand first, however many columns there are
  pub words_first : (j k t : ℕ) → t < word_count_below n d j → at (words_below n g d (j + k)) t ≡ at (words_below n g d j) t
  unfolding words_below
  words_first j zero t l = let e : j + 0 ≡ j = omega arith in rw e refl
  words_first j (suc k) t l =
      let e : j + suc k ≡ suc (j + k) = omega arith in
      let inside : t < length (words_below n g d (j + k)) = omega (arith, length_words n g d (j + k), words_grow d n j (j + k) (omega arith)) in
      rw e (get_or-append (words_below n g d (j + k)) (column_words n g d (j + k)) (pos 0) t inside ∙ words_first j k t l)

  -- column j, which is not skipped, comes after those before it
  module _ (j : ℕ) (e : skipped (d j) ≡ false) where
    abbrev to : ℕ
    to = word_count_below n d j

    abbrev sums : List ℤ
    sums = list_from 0 n (running_sum g d (suc j))

    number-last : at (words_below n g d (j + 1)) to ≡ pos (suc j)
    number-last = rw (column_listed n g d j e) (get_or_at (words_below n g d j) (pos (suc j)) sums (pos 0) to (length_words n g d j))

    sum-last : (i : ℕ) → i < n → at (words_below n g d (j + 1)) (to + 1 + i) ≡ running_sum g d (suc j) i
    sum-last i l =
        let place : to + 1 + i ≡ length (words_below n g d j) + suc i = omega (arith, length_words n g d j) in
        let start : 0 + i ≡ i = omega arith in
        rw (column_listed n g d j e, place)
        (get_or-append-add (words_below n g d j) (pos (suc j) ∷ sums) (suc i) (pos 0) ∙ getD_list_from 0 n (running_sum g d (suc j)) i l ∙ rw start refl)

    -- and stands there among those of m columns
    module _ (m : ℕ) (h : j < m) where
      among : (t : ℕ) → t < to + (n + 1) → at (words_below n g d m) t ≡ at (words_below n g d (j + 1)) t
      among t l = let q : j + 1 + (m - (j + 1)) ≡ m = omega arith in rw q at (words_first (j + 1) (m - (j + 1)) t (rw (words_counted d n j e) l))

      pub number_stands : at (words_below n g d m) to ≡ pos (suc j)
      number_stands = among to (omega arith) ∙ number-last

      pub sum_stands : (i : ℕ) → i < n → at (words_below n g d m) (to + 1 + i) ≡ running_sum g d (suc j) i
      sum_stands i l = among (to + 1 + i) (omega arith) ∙ sum-last i l

  -- the last of the sums of row i, 0 where there are none, is the sum over all columns
  pub last_sum_is : (j i : ℕ) → i < n
      → cond (eqb (word_count_below n d j) 0) (pos 0) (at (words_below n g d j) (word_count_below n d j - n + i)) ≡ running_sum g d j i
  last_sum_is zero i l = let e : word_count_below n d 0 ≡ 0 = rw (no_column d) (omega arith) in rw e (sym (dot-zero (entry g i) d))
  last_sum_is (suc j) i l = rw (← add-one j) (by_case (last_sum_is j i l) (skipped (d j)) refl)
    where
      by_case : cond (eqb (word_count_below n d j) 0) (pos 0) (at (words_below n g d j) (word_count_below n d j - n + i)) ≡ running_sum g d j i
          → (b : Bool) → skipped (d j) ≡ b
          → cond (eqb (word_count_below n d (j + 1)) 0) (pos 0) (at (words_below n g d (j + 1)) (word_count_below n d (j + 1) - n + i)) ≡ running_sum g d (j + 1) i
      by_case h true e = rw (column_not_counted d j e, column_not_listed n g d j e) (h ∙ skipped_adds_none (entry g i) d j e)
      by_case h false e =
          let place : word_count_below n d (j + 1) - n + i ≡ word_count_below n d j + 1 + i = omega (arith, words_counted d n j e) in
          let some = ne_eqb (word_count_below n d (j + 1)) 0 (λ z. omega (arith, words_counted d n j e)) in
          rw (some, place) (sum-last j e i l ∙ rw (add-one j) refl)

-- no column is left where all are skipped
pub none_listed : (n : ℕ) (g : List ℤ) (d : ℕ → ℤ) (j : ℕ) → ((i : ℕ) → skipped (d i) ≡ true) → (words_below n g d j ≡ []) × (columns_below d j ≡ 0)
unfolding words_below columns_below
none_listed n g d zero e = (refl, refl)
none_listed n g d (suc j) e = let h = none_listed n g d j e in (rw (e j, h.0) refl, rw (e j) h.1)
