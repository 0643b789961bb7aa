-- The columns that are not skipped: where each stands in the table, how they are listed, and that the sum of
-- those listed is the sum of all with their digits. Cited by the proofs of `column_place`,
-- `listed_sums`, `choose_and_list` and the `step` of `BySigns`.
use mathlib.Core.Path.{◌≡◌, refl, sym, ap, ap₂, ◌∙◌}
use mathlib.Core.Bool.{Bool, true, false}
use mathlib.Core.List.{List, [], ◌∷◌}
use mathlib.Core.Logic.{◌⊎◌, inl, inr}
use Prim.Native.Nat.{ℕ, zero, suc, ◌+◌, ◌*◌, ◌^◌, ◌<◌, ◌≤◌}
use native.Mathlib.Nat.{mul-le-mul}
use native.Mathlib.Numerals.{add-one}
use native.Mathlib.Omega.{arith}
use lib.IntN.{ℤ, pos, negsuc, nat_abs, ◌+ℤ◌, ◌-ℤ◌, ◌*ℤ◌, +ℤ_idr, *ℤ-zero}
use lib.Signed.{◌≤ℤ◌}
use lib.ListN.{length, get_or, set, take, length-set}
use lib.Seq.{get_or-set_same, get_or-set_other}
use mir.Syntax.{w64}
use mir.Val.{SFits, to_z, of_z}
use Rattle.std.proofs.lemmas.List.{get_or-take, length-take-le}
use Rattle.integers.proofs.Absolute.{abs-add, abs-mul, abs_parts}
use Rattle.integers.proofs.Linear.{lins, by_le}
use Rattle.integers.proofs.Maximum.{le_or_lt}
use Rattle.integers.proofs.Machine.{Machine, known, bounded, machs, machine_fits, machine_eq}
use Rattle.integers.proofs.Normal.{solve, polys}
use Rattle.integers.proofs.Sum.{sum-zero, sum-suc, sum_ext, abs-sum, total_le}
use Rattle.integers.specs.Flat.{at, entry}
use Rattle.integers.specs.Sum.{sum, dot}
use Rattle.column.specs.Column.{skipped}
use Rattle.integers.specs.Flat.{filled}
use Rattle.spans.specs.Inner.{Summed}
use Rattle.signs.specs.Inner.{table_row, Columns, column_place, brought, Listed, MayAdd, added, MayAddListed, ListedSums}
use Rattle.counts.specs.Inner.{counted}
use Rattle.integers.proofs.Filled.{length-filled, filled_row}

-- ---- one column

-- a digit of radix 2 as it is lent on: `x` is what `choose_row` gave
module _ (x d : ℤ) (ex : x ≡ d) (small : nat_abs d ≤ 1) where
  digit_read : to_z w64 (of_z w64 x) ≡ d
  digit_read = let a = known x d 1 ex small in machine_eq (search machs depth 9) tt refl

  pub digit_sign : nat_abs (to_z w64 (of_z w64 x)) ≤ 1
  digit_sign = rw digit_read small

-- a digit and 1 added, which is 0, 1 or 2, as the machine has it
module _ (d : ℤ) (h : nat_abs d ≤ 1) where
  abbrev the_sign : Machine d
  the_sign = bounded d 1 h

  pub raised_fits : SFits w64 (to_z w64 (of_z w64 d) +ℤ pos 1)
  raised_fits = let a = the_sign in machine_fits (search machs depth 9) tt

  raised_is : to_z w64 (of_z w64 (to_z w64 (of_z w64 d) +ℤ pos 1)) ≡ d +ℤ pos 1
  raised_is = let a = the_sign in machine_eq (search machs depth 9) tt refl

  pub raised_least : pos 0 ≤ℤ to_z w64 (of_z w64 (to_z w64 (of_z w64 d) +ℤ pos 1))
  raised_least = rw raised_is (by_le (d ∷ []) (search lins depth 9) (search lins depth 9) (omega (arith, abs_parts d)))

  -- `c` is what `to_unsigned` gave
  pub raised_read : (c : ℕ) → c ≡ nat_abs (to_z w64 (of_z w64 (to_z w64 (of_z w64 d) +ℤ pos 1))) → (c < 3) × (c ≡ nat_abs (d +ℤ pos 1))
  raised_read c e = let q : c ≡ nat_abs (d +ℤ pos 1) = e ∙ ap nat_abs raised_is in (omega (arith, q, abs-add d (pos 1)), q)

-- ---- listing them

-- a sum with one term more
sum-next : (n : ℕ) (f : ℕ → ℤ) → sum (n + 1) f ≡ sum n f +ℤ f n
sum-next n f = rw add-one (sum-suc n f)

-- no column
pub listed_none : (d : ℕ → ℤ) (list : List ℕ) → length list ≡ 16 → Listed 0 d list 0
listed_none d list size =
    record {
      size = size;
      few = omega arith;
      each = λ x B k c l. absurd (omega arith);
      sums = λ x. sum-zero (λ c. x (get_or list c 0)) ∙ sym (sum-zero (λ j. brought x (d j) j));
    }

-- column j: its place is written past those listed, and counts if it is not skipped
module _ {j count : ℕ} {d : ℕ → ℤ} {list : List ℕ} (l : j < 16) (h : Listed j d list count) where
  module _ (place : ℕ) (ep : place ≡ column_place (d j) j) where
    abbrev next : List ℕ
    next = set list count place

    size-kept : length next ≡ 16
    size-kept = length-set list count place ∙ h.size

    below : (c : ℕ) → c < count → get_or next c 0 ≡ get_or list c 0
    below c m = get_or-set_other list count c place 0 (λ q. omega arith)

    newest : get_or next count 0 ≡ column_place (d j) j
    newest = get_or-set_same list count place 0 (omega (arith, h.size, h.few)) ∙ ep

    module _ (x : ℕ → ℤ) where
      each_below : (B : ℕ) → ((i : ℕ) → i < j + 1 → nat_abs (brought x (d i) i) ≤ B) → (c : ℕ) → c < count → nat_abs (x (get_or next c 0)) ≤ B
      each_below B k c m = rw (below c m) (h.each x B (λ i q. k i (omega arith)) c m)

      sum_below : sum count (λ c. x (get_or next c 0)) ≡ sum j (λ i. brought x (d i) i)
      sum_below = sum_ext count (λ c. x (get_or next c 0)) (λ c. x (get_or list c 0)) (λ c m. ap x (below c m)) ∙ h.sums x

    skip : skipped (d j) ≡ true → Listed (j + 1) d next count
    skip e =
        record {
          size = size-kept;
          few = omega (arith, h.few);
          each = each_below;
          sums = λ x. sum_below x ∙ sym (sum-next j (λ i. brought x (d i) i) ∙ nothing x (sum j (λ i. brought x (d i) i)));
        }
      where
        nothing : (x : ℕ → ℤ) (y : ℤ) → y +ℤ brought x (d j) j ≡ y
        nothing x y = rw e (+ℤ_idr y)

    keep : skipped (d j) ≡ false → Listed (j + 1) d next (count + 1)
    keep e =
        record {
          size = size-kept;
          few = omega (arith, h.few);
          each = λ x B k c m. one x B k c m (le_or_lt count c);
          sums = λ x. sum-next count (λ c. x (get_or next c 0)) ∙ ap₂ (λ (y z : ℤ). y +ℤ z) (sum_below x) (last x) ∙ sym (sum-next j (λ i. brought x (d i) i));
        }
      where
        last : (x : ℕ → ℤ) → x (get_or next count 0) ≡ brought x (d j) j
        last x = ap x newest ∙ rw e refl

        one : (x : ℕ → ℤ) (B : ℕ) → ((i : ℕ) → i < j + 1 → nat_abs (brought x (d i) i) ≤ B) → (c : ℕ) → c < count + 1 → (count ≤ c) ⊎ (c < count) → nat_abs (x (get_or next c 0)) ≤ B
        one x B k c m (inl q) = let same : c ≡ count = omega arith in rw (same, last x) (k j (omega arith))
        one x B k c m (inr q) = each_below x B k c q

    by_digit : (b : Bool) → skipped (d j) ≡ b → Listed (j + 1) d next (counted (d j) count)
    by_digit true e = rw e (skip e)
    by_digit false e = rw e (keep e)

  -- `x`, `place` and `count'` are what `choose_row`, `column_place` and `counted` gave
  pub listed_next : (x : ℤ) → x ≡ d j → nat_abs (d j) ≤ 1 → (place count' : ℕ) → place ≡ column_place (to_z w64 (of_z w64 x)) j → count' ≡ counted (to_z w64 (of_z w64 x)) count
      → Listed (j + 1) d (set list count place) count'
  listed_next x ex small place count' ep ec =
      let r = digit_read x (d j) ex small in
      rw ec (rw r (by_digit place (rw r at ep) (skipped (d j)) refl))

-- ---- adding them

-- the sums over the first c of the places listed
module _ {t : List ℤ} {list : List ℕ} {count : ℕ} (h : MayAddListed t list count) (c : ℕ) (l : c < count) (s : List ℤ) (es : ListedSums t list c s) where
  sum-small : (i : ℕ) → i < 16 → nat_abs (sum c (λ k. at t (get_or list k 0 + i))) ≤ 2 ^ 48
  sum-small i m =
      omega (
        arith,
        h.few,
        abs-sum c (λ k. at t (get_or list k 0 + i)),
        total_le c (λ k. nat_abs (at t (get_or list k 0 + i))) (2 ^ 40) (λ k q. h.products k i (omega arith) m),
      )

  pub may_add : MayAdd t (get_or list c 0) s
  may_add = record { inside = h.inside c l; sums = λ i m. rw (es i m) (sum-small i m); products = λ i m. h.products c i l m }

  -- `s'` is what `add_rows` left
  pub sums_next : length s ≡ 16 → (s' : List ℤ) → s' ≡ filled (added t (get_or list c 0) s) s 16
      → (length s' ≡ 16) × ListedSums t list (c + 1) s'
  sums_next size s' e =
      let f = added t (get_or list c 0) s in
      (rw e (length-filled f s 16 ∙ size), λ i m. rw e (filled_row f s 16 i m (omega (arith, size)) ∙ rw (es i m) (sym (sum-next c (λ k. at t (get_or list k 0 + i))))))

-- ---- those listed bring what all columns do

-- a place is at most 496, from which on the last column stands; a column that is skipped brings 0
place_most : (j : ℕ) → j < 16 → (d : ℤ) → nat_abs d ≤ 1 → nat_abs (brought pos d j) ≤ 496
place_most j l (pos zero) k = omega arith
place_most j l (pos (suc zero)) k = omega arith
place_most j l (pos (suc (suc d))) k = absurd (omega arith)
place_most j l (negsuc zero) k = omega arith
place_most j l (negsuc (suc d)) k = absurd (omega arith)

-- what column j brings to the sum of row i: the product with its digit
module _ {n : ℕ} {g t : List ℤ} (h : Columns n g t) (i j : ℕ) (m : i < 16) (l : j < n) where
  product_is : (d : ℤ) → nat_abs d ≤ 1 → brought (λ p. at t (p + i)) d j ≡ table_row t i j *ℤ d
  product_is (pos zero) k = sym (*ℤ-zero (table_row t i j))
  product_is (pos (suc zero)) k =
      let e : 128 * 2 + 16 * j + i ≡ 256 + (16 * j + i) = omega arith in
      ap (at t) e ∙ once (table_row t i j)
    where
      once : (x : ℤ) → x ≡ x *ℤ pos 1
      once x = solve (x ∷ []) (search polys depth 9) (search polys depth 9) tt
  product_is (pos (suc (suc d))) k = absurd (omega arith)
  product_is (negsuc zero) k =
      let e : 128 * 0 + 16 * j + i ≡ 16 * j + i = omega arith in
      ap (at t) e ∙ h.negatives (16 * j + i) (omega arith) ∙ negative (table_row t i j)
    where
      negative : (x : ℤ) → pos 0 -ℤ x ≡ x *ℤ negsuc 0
      negative x = solve (x ∷ []) (search polys depth 9) (search polys depth 9) tt
  product_is (negsuc (suc d)) k = absurd (omega arith)

  product_small : (d : ℤ) → nat_abs d ≤ 1 → nat_abs (brought (λ p. at t (p + i)) d j) ≤ 2 ^ 40
  product_small d k =
      rw (product_is d k, abs-mul (table_row t i j) d) (omega (arith, mul-le-mul (h.small (16 * j + i) (omega arith)) k))

-- so the places listed may be added, and their sums are the rows' with the digits
module _ {n : ℕ} {g t : List ℤ} {d : ℕ → ℤ} {list : List ℕ} {count : ℕ} (order : n ≤ 16) (h : Columns n g t) (signs : (j : ℕ) → j < n → nat_abs (d j) ≤ 1) (k : Listed n d list count) where
  -- those listed alone
  abbrev places : List ℕ
  places = take count list

  how_many : length places ≡ count
  how_many = length-take-le count list (omega (arith, k.size, k.few))

  place_is : (c : ℕ) → c < count → get_or places c 0 ≡ get_or list c 0
  place_is c l = get_or-take count list c 0 l

  pub may-add_listed : MayAddListed t places (length places)
  may-add_listed = rw how_many may_add_first
    where
      may_add_first : MayAddListed t places count
      may_add_first =
          record {
            few = omega (arith, k.few);
            inside = λ c l. rw (place_is c l) (omega (arith, k.each pos 496 (λ j m. place_most j (omega arith) (d j) (signs j m)) c l));
            products = λ c i l m. rw (place_is c l) (k.each (λ p. at t (p + i)) (2 ^ 40) (λ j q. product_small h i j m q (d j) (signs j q)) c l);
          }

  sum_is : (i : ℕ) → sum (length places) (λ c. at t (get_or places c 0 + i)) ≡ sum count (λ c. at t (get_or list c 0 + i))
  sum_is i =
      rw how_many
      (sum_ext count (λ c. at t (get_or places c 0 + i)) (λ c. at t (get_or list c 0 + i)) (λ c l. ap (λ (p : ℕ). at t (p + i)) (place_is c l)))

  -- `v` has the digits in an array
  pub listed_summed : {v s : List ℤ} → ((j : ℕ) → j < n → at v j ≡ d j) → ListedSums t places (length places) s → Summed n g v s
  unfolding dot
  listed_summed {v} {s} same e =
      record {
        rows = λ i l.
            e i (omega arith)
            ∙ sum_is i
            ∙ k.sums (λ p. at t (p + i))
            ∙ sum_ext n (λ j. brought (λ p. at t (p + i)) (d j) j) (λ j. entry g i j *ℤ at v j) (λ j m. product_is h i j (omega arith) m (d j) (signs j m) ∙ rw (h.entries i j l m, same j m) refl);
      }
