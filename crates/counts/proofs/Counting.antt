-- In how many steps each column is added: the counts of a loop over the columns, and the entries of a column.
-- Cited by the proofs of the functions that count, here and in the crates signs, choice and stepping.
use mathlib.Core.Path.{◌≡◌, refl, sym, ◌∙◌}
use mathlib.Core.Bool.{Bool, true, false, cond}
use mathlib.Core.List.{List}
use mathlib.Core.Logic.{◌⊎◌, inl, inr}
use Prim.Native.Nat.{ℕ, zero, suc, ◌+◌, ◌-◌, ◌*◌, ◌^◌, ◌<◌, ◌≤◌}
use native.Mathlib.Nat.{mul-le-mul}
use native.Mathlib.Numerals.{add-one}
use native.Mathlib.Omega.{arith}
use borrow.Author.Tests.{ne_eqb}
use lib.Dec.{eqb}
use lib.IntN.{ℤ, pos, nat_abs}
use lib.ListN.{length, get_or, set, length-set}
use lib.Seq.{get_or-set_same, get_or-set_other}
use lib.Signed.{mag}
use mir.Facts.{to_z-of_z}
use mir.Syntax.{w8, w64}
use mir.Val.{SFits, to_z, of_z}
use Rattle.integers.specs.{Flat.at, Flat.entry, Sum.total}
use Rattle.integers.proofs.Absolute.{abs-zero}
use Rattle.integers.proofs.Machine.{i8_kept, i64_kept}
use Rattle.integers.proofs.Maximum.{le_or_lt}
use Rattle.integers.proofs.Sum.{total-zero, total-suc, total_split, total-none, total_le}
use Rattle.additions.specs.Additions.{nonzero}
use Rattle.state.specs.State.{digits_of}
use Rattle.column.specs.Column.{column, Zeros}
use Rattle.counts.specs.Inner.{Counts, MayCount, MayMultiply, counted, column_entries}

-- ---- one digit, or one entry

module _ (d : ℤ) (fits : SFits w64 d) where
  -- d is 0 where its bits are, and only there
  pub none-added : of_z w64 d ≡ 0 → 0 ≡ nonzero d
  none-added e = let z : d ≡ pos 0 = sym (to_z-of_z {w = w64} fits) ∙ rw e refl in rw z refl

  pub one-added : (of_z w64 d ≡ 0 → ⊥) → 1 ≡ nonzero d
  one-added ne = rw (ne_eqb (nat_abs d) 0 (λ q. ne (rw (abs-zero d (omega arith)) refl))) refl

-- a count after it
module _ (d : ℤ) (count : ℕ) (fits : SFits w64 d) where
  pub counted_same : of_z w64 d ≡ 0 → count ≡ counted d count
  counted_same e = let z : d ≡ pos 0 = sym (to_z-of_z {w = w64} fits) ∙ rw e refl in rw z refl

  pub counted-more : (of_z w64 d ≡ 0 → ⊥) → count + 1 ≡ counted d count
  counted-more ne = rw (ne_eqb (nat_abs d) 0 (λ q. ne (rw (abs-zero d (omega arith)) refl))) refl

-- at most one
one-most : (b : Bool) → cond b 0 1 ≤ 1
one-most true = omega arith
one-most false = omega arith

-- what `added` gave of a number w that was handed on, which is D
pub added_of : {w D : ℤ} {a : ℕ} → mag w < 2 ^ 63 → w ≡ D → a ≡ nonzero (to_z w64 (of_z w64 w)) → a ≡ nonzero D
added_of {w} h e o = o ∙ rw (i64_kept w h, e) refl

-- and of an i64 made of one
pub added-digit : (x : ℤ) {w : ℤ} {a : ℕ} → mag x < 2 ^ 7 → mag w < 2 ^ 63 → w ≡ to_z w8 (of_z w8 x) → a ≡ nonzero (to_z w64 (of_z w64 w)) → a ≡ nonzero x
added-digit x h l e o = added_of l (e ∙ i8_kept x h) o

-- the digits of a step, in the array of all steps
pub step_digit : (ds : List ℤ) (k i : ℕ) → (k ≡ 0 → ⊥) → at ds (16 * (k - 1) + i) ≡ digits_of ds k i
step_digit ds zero i h = absurd (h refl)
step_digit ds (suc k) i h = let e : suc k - 1 ≡ k = omega arith in rw e

-- of a digit in the array of all steps
pub added_step : (ds : List ℤ) (k j : ℕ) {w : ℤ} {a : ℕ} → (k ≡ 0 → ⊥) → mag (at ds (16 * (k - 1) + j)) < 2 ^ 7 → mag w < 2 ^ 63 → w ≡ to_z w8 (of_z w8 (at ds (16 * (k - 1) + j)))
    → a ≡ nonzero (to_z w64 (of_z w64 w)) → a ≡ nonzero (digits_of ds k j)
added_step ds k j ne h l e o = added-digit (at ds (16 * (k - 1) + j)) h l e o ∙ rw (step_digit ds k j ne) refl

-- of no digit, before the first step
pub none_first : (ds : List ℤ) (k j : ℕ) → k ≡ 0 → 0 ≡ nonzero (digits_of ds k j)
none_first ds k j e = rw e refl

-- ---- a loop over the columns

-- the columns below i have F j of what they had, and the others what they had
pub record Counting (F : ℕ → ℕ → ℕ) (t₀ : List ℕ) (i : ℕ) (t : List ℕ) : Type 0 where
  pub size : length t ≡ 16
  pub below : (j : ℕ) → j < i → get_or t j 0 ≡ F j (get_or t₀ j 0)
  pub past : (j : ℕ) → i ≤ j → get_or t j 0 ≡ get_or t₀ j 0

pub counting_none : (F : ℕ → ℕ → ℕ) (t : List ℕ) → length t ≡ 16 → Counting F t 0 t
counting_none F t h = record { size = h; below = λ j l. absurd (omega arith); past = λ j l. refl }

-- one more, whose count is now x
module _ {F : ℕ → ℕ → ℕ} {t₀ t : List ℕ} {i : ℕ} (h : Counting F t₀ i t) where
  pub counting_next : {x : ℕ} → i < 16 → x ≡ F i (get_or t i 0) → Counting F t₀ (i + 1) (set t i x)
  counting_next {x} l e =
      record {
        size = length-set t i x ∙ h.size;
        below = λ j m. by_case j m (le_or_lt i j);
        past = λ j m. get_or-set_other t i j x 0 (λ o. omega arith) ∙ h.past j (omega arith);
      }
    where
      by_case : (j : ℕ) → j < i + 1 → (i ≤ j) ⊎ (j < i) → get_or (set t i x) j 0 ≡ F j (get_or t₀ j 0)
      by_case j m (inl k) =
          let o : j ≡ i = omega arith in
          rw (o, get_or-set_same t i x 0 (omega (arith, h.size))) (e ∙ rw (h.past i (omega arith)) refl)
      by_case j m (inr k) = get_or-set_other t i j x 0 (λ o. omega arith) ∙ h.below j k

  pub counting_all : {n : ℕ} → i ≡ n → Counts n (λ j. F j (get_or t₀ j 0)) t
  counting_all e = rw (sym e) (record { size = h.size; columns = h.below })

-- the digits D counted: `a` is what `added` gave of the digit w
module _ (D : ℕ → ℤ) {t₀ t : List ℕ} {i : ℕ} (h : Counting (λ j x. x + nonzero (D j)) t₀ i t) {w : ℤ} {a : ℕ} (ok : mag w < 2 ^ 63) (e : w ≡ D i) (o : a ≡ nonzero (to_z w64 (of_z w64 w))) where
  pub digit-fits : {n : ℕ} → i < n → MayCount n t₀ → get_or t i 0 + a < 256
  digit-fits l m =
      omega (arith, h.past i (omega arith), m.room i l, added_of ok e o, one-most (eqb (nat_abs (D i)) 0))

  pub digit-counted : i < 16 → Counting (λ j x. x + nonzero (D j)) t₀ (i + 1) (set t i (get_or t i 0 + a))
  digit-counted l = counting_next h l (rw (added_of ok e o) refl)

-- ---- the entries of a column

-- a total ends where only zeros are left
total_tail : (f : ℕ → ℕ) (i n : ℕ) → i ≤ n → ((t : ℕ) → i ≤ t → t < n → f t ≡ 0) → total i f ≡ total n f
total_tail f i n l h =
    let e : n ≡ i + (n - i) = omega arith in
    rw e (omega (arith, total_split i (n - i) f, total-none (n - i) (λ k. f (i + k)) (λ k m. h (i + k) (omega arith) (omega arith))))

-- a count with one more, or without
count-more : (b : Bool) (c : ℕ) → cond b c (c + 1) ≡ c + cond b 0 1
count-more true c = omega arith
count-more false c = refl

module _ (g : List ℤ) (j : ℕ) where
  abbrev so_far : ℕ → ℕ
  so_far i = total i (λ t. nonzero (entry g t j))

  -- rows of zeros have none
  pub no_entries : (lo : ℕ) → Zeros (column g j) 0 lo → 0 ≡ so_far lo
  no_entries lo h =
      sym (total-zero (λ t. nonzero (entry g t j)))
      ∙ total_tail (λ t. nonzero (entry g t j)) 0 lo (omega arith) (λ t a b. rw (h t a b) refl)

  -- there are no more than rows
  pub entries-few : (i : ℕ) → so_far i ≤ i
  entries-few i =
      omega (arith, total_le i (λ t. nonzero (entry g t j)) 1 (λ t l. one-most (eqb (nat_abs (entry g t j)) 0)))

  -- with one row more, `x` being what `counted` gave
  pub entries_next : {c x : ℕ} (i : ℕ) → mag (entry g i j) < 2 ^ 63 → c ≡ so_far i → x ≡ counted (to_z w64 (of_z w64 (entry g i j))) c → x ≡ so_far (i + 1)
  entries_next {c} i h a b =
      let e : counted (to_z w64 (of_z w64 (entry g i j))) c ≡ c + nonzero (entry g i j) =
      rw (i64_kept (entry g i j) h) (count-more (eqb (nat_abs (entry g i j)) 0) c) in
      rw add-one (omega (arith, a, b, e, total-suc i (λ t. nonzero (entry g t j))))

  -- past them only rows of zeros are left
  pub entries_all : (n i : ℕ) → i ≤ n → Zeros (column g j) i n → so_far i ≡ column_entries n g j
  entries_all n i l h = total_tail (λ t. nonzero (entry g t j)) i n l (λ t a b. rw (h t a b) refl)

-- ---- the additions

module _ {n : ℕ} (e t : List ℕ) (d : ℕ → ℤ) (h : MayMultiply n e t d) where
  abbrev term : ℕ → ℕ
  term j = (get_or t j 0 - nonzero (d j)) * get_or e j 0

  term_most : (j : ℕ) → j < n → term j ≤ 976
  term_most j l =
      let m : get_or t j 0 - nonzero (d j) ≤ 61 = omega (arith, h.few j l) in
      mul-le-mul m (h.entries j l)

  -- nothing leaves 64 bits, `x` being what `added_after` gave
  pub product_small : (j : ℕ) → j < n → {x : ℕ} → x ≡ nonzero (d j) → (get_or t j 0 - x) * get_or e j 0 ≤ 976
  product_small j l o = rw o (term_most j l)

  pub additions-small : n ≤ 16 → (j : ℕ) → j ≤ n → total j term ≤ 15616
  additions-small order j l = omega (arith, total_le j term 976 (λ i m. term_most i (omega arith)))

  -- one column more
  pub additions-next : (j : ℕ) {a x : ℕ} → a ≡ total j term → x ≡ nonzero (d j) → a + (get_or t j 0 - x) * get_or e j 0 ≡ total (j + 1) term
  additions-next j o p = rw (o, p) (sym (rw add-one (total-suc j term)))
