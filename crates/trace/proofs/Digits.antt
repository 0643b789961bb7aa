-- The digits of k steps of n rows, as a list and in an array of 960: what stands where, that the two come to
-- the same, and what one more step adds. Cited by `Valid` and by the proofs of the functions.
use mathlib.Core.Path.{◌≡◌, refl, sym, ap, ◌∙◌}
use mathlib.Core.Bool.{cond, ◌&&◌, and-false}
use mathlib.Core.List.{List, [], ◌∷◌, ◌++◌}
use mathlib.Core.Logic.{◌⊎◌, inl, inr}
use Prim.Native.Nat.{ℕ, zero, suc, ◌+◌, ◌*◌, ◌-◌, ◌/◌, ◌%◌, ◌<◌, ◌≤◌}
use native.Mathlib.Nat.{div-add-mod', div-lt_iff_lt-mul, mod-lt, mul_comm, mul-suc, mul-zero}
use native.Mathlib.Omega.{arith}
use borrow.Author.Tests.{lt-ltb, le-ltb}
use lib.Arith.{digits_div, digits_mod}
use lib.Dec.{ltb}
use lib.IntN.{ℤ, pos}
use lib.ListN.{length, set, replicate, length-append, length-set, get_or-replicate, get_or-append}
use lib.Seq.{ext_get_or, get_or-append-add, get_or-set_other, get_or-set_same, length-sets, sets}
use Rattle.integers.specs.Flat.{at, entry, list_from}
use Rattle.integers.proofs.Flat.{length-list_from, getD_list_from}
use Rattle.integers.proofs.Maximum.{le_or_lt}
use Rattle.bitfields.specs.Twos.{AllFit}
use Rattle.bitfields.proofs.Steps.{step_le}
use Rattle.trace.specs.Trace.{digit_list, digit_array}
use Rattle.trace.specs.Inner.{digits_from, StepsFit}

-- ---- places

-- place t of a list of k steps of n rows is row t % n of step t / n
place_step : {n k t : ℕ} → 0 < n → t < n * k → t / n < k
place_step {n} {k} {t} p h = (div-lt_iff_lt-mul {k = n} {x = t} {y = k} p).1 (rw (mul_comm n k) at h)

place_of : (n t : ℕ) → n * (t / n) + t % n ≡ t
place_of n t = ap (λ (x : ℕ). x + t % n) (mul_comm n (t / n)) ∙ div-add-mod' t n

step_of : (n j i : ℕ) → i < n → (n * j + i) / n ≡ j
step_of n j i h = rw (mul_comm n j) (digits_div j h)

row_of : (n j i : ℕ) → i < n → (n * j + i) % n ≡ i
row_of n j i h = rw (mul_comm n j) (digits_mod j h)

pub place_lt : (n k j i : ℕ) → j < k → i < n → n * j + i < n * k
place_lt n k j i h l = omega (arith, step_le n j k h)

-- ---- lists

pub list_from_ext : (i k : ℕ) (f : ℕ → ℤ) (v : List ℤ) → length v ≡ k → ((t : ℕ) → t < k → f (i + t) ≡ at v t) → list_from i k f ≡ v
list_from_ext i k f v e h =
    ext_get_or (pos 0) (list_from i k f) v (length-list_from i k f ∙ sym e)
    (λ t l. let q : t < k = rw (length-list_from i k f) at l in getD_list_from i k f t q ∙ h t q)

pub length-digit_list : (n k : ℕ) (ds : List ℤ) → length (digit_list n k ds) ≡ n * k
unfolding digit_list
length-digit_list n k ds = length-list_from 0 (n * k) (λ t. entry ds (t / n) (t % n))

at-digit_list : (n k : ℕ) (ds : List ℤ) (t : ℕ) → t < n * k → at (digit_list n k ds) t ≡ entry ds (t / n) (t % n)
unfolding digit_list
at-digit_list n k ds t h =
    let e : 0 + t ≡ t = omega arith in
    getD_list_from 0 (n * k) (λ t. entry ds (t / n) (t % n)) t h ∙ rw e

pub entry-digit_list : (n k : ℕ) (ds : List ℤ) (j i : ℕ) → j < k → i < n → at (digit_list n k ds) (n * j + i) ≡ entry ds j i
entry-digit_list n k ds j i h l = at-digit_list n k ds (n * j + i) (place_lt n k j i h l) ∙ rw (step_of n j i l, row_of n j i l)

-- digits that fit 5 bits, as a list
pub list-fits : {n k : ℕ} {ds : List ℤ} → StepsFit n k ds → 0 < n → AllFit 5 (digit_list n k ds)
list-fits {n} {k} {ds} a p = record {
  each_fits = λ t l.
      let q : t < n * k = rw (length-digit_list n k ds) at l in
      rw (at-digit_list n k ds t q) (a.step_fits (t / n) (t % n) (place_step p q) (mod-lt t p));
}

-- ---- arrays

length-digit_array : (n k : ℕ) (v : List ℤ) → length (digit_array n k v) ≡ 960
unfolding digit_array
length-digit_array n k v = length-list_from 0 960 (λ t. cond (ltb (t / 16) k && ltb (t % 16) n) (at v (n * (t / 16) + t % 16)) (pos 0))

at-digit_array : (n k : ℕ) (v : List ℤ) (t : ℕ) → t < 960 → at (digit_array n k v) t ≡ cond (ltb (t / 16) k && ltb (t % 16) n) (at v (n * (t / 16) + t % 16)) (pos 0)
unfolding digit_array
at-digit_array n k v t h =
    let e : 0 + t ≡ t = omega arith in
    getD_list_from 0 960 (λ t. cond (ltb (t / 16) k && ltb (t % 16) n) (at v (n * (t / 16) + t % 16)) (pos 0)) t h ∙ rw e

-- within the k steps and the n rows, and elsewhere
at-inside : (n k : ℕ) (v : List ℤ) (t : ℕ) → t < 960 → t / 16 < k → t % 16 < n → at (digit_array n k v) t ≡ at v (n * (t / 16) + t % 16)
at-inside n k v t h a b = at-digit_array n k v t h ∙ rw (lt-ltb (t / 16) k a, lt-ltb (t % 16) n b)

at_outside : (n k : ℕ) (v : List ℤ) (t : ℕ) → t < 960 → (k ≤ t / 16) ⊎ (n ≤ t % 16) → at (digit_array n k v) t ≡ pos 0
at_outside n k v t h (inl a) = at-digit_array n k v t h ∙ rw (le-ltb (t / 16) k a)
at_outside n k v t h (inr b) = at-digit_array n k v t h ∙ rw (le-ltb (t % 16) n b, and-false (ltb (t / 16) k))

entry-digit_array : (n k : ℕ) (v : List ℤ) (j i : ℕ) → n ≤ 16 → k ≤ 60 → j < k → i < n → entry (digit_array n k v) j i ≡ at v (n * j + i)
entry-digit_array n k v j i a b h l =
    let e : (16 * j + i) / 16 ≡ j = omega arith in
    let d : (16 * j + i) % 16 ≡ i = omega arith in
    at-inside n k v (16 * j + i) (omega arith) (omega arith) (omega arith) ∙ rw (e, d)

-- ---- the two come to the same

-- the list of an array is the list that the array was made of
pub list_array : (n k : ℕ) (v : List ℤ) → 0 < n → n ≤ 16 → k ≤ 60 → length v ≡ n * k → digit_list n k (digit_array n k v) ≡ v
unfolding digit_list
list_array n k v p a b e =
    list_from_ext 0 (n * k) (λ t. entry (digit_array n k v) (t / n) (t % n)) v e
    (λ t h. let z : 0 + t ≡ t = omega arith in
    rw z (entry-digit_array n k v (t / n) (t % n) a b (place_step p h) (mod-lt t p) ∙ rw (place_of n t)))

-- the array of an array's list has the array's digits of the k steps and the n rows, and 0 elsewhere
pub entry_kept : (n k : ℕ) (ds : List ℤ) (j i : ℕ) → n ≤ 16 → k ≤ 60 → j < k → i < n → entry (digit_array n k (digit_list n k ds)) j i ≡ entry ds j i
entry_kept n k ds j i a b h l = entry-digit_array n k (digit_list n k ds) j i a b h l ∙ entry-digit_list n k ds j i h l

pub entry-none : (n k : ℕ) (v : List ℤ) (j i : ℕ) → j < 60 → i < 16 → (k ≤ j) ⊎ (n ≤ i) → entry (digit_array n k v) j i ≡ pos 0
entry-none n k v j i h l (inl o) = at_outside n k v (16 * j + i) (omega arith) (inl (omega arith))
entry-none n k v j i h l (inr o) = at_outside n k v (16 * j + i) (omega arith) (inr (omega arith))

-- ---- numbers stored one after the other, from place i on

pub at_sets_other : (l : List ℤ) (i : ℕ) (vs : List ℤ) (t : ℕ) → (t < i) ⊎ (i + length vs ≤ t) → at (sets l i vs) t ≡ at l t
at_sets_other l i [] t o = refl
at_sets_other l i (v ∷ vs) t (inl h) =
    at_sets_other (set l i v) (suc i) vs t (inl (omega arith)) ∙ get_or-set_other l i t v (pos 0) (λ e. omega arith)
at_sets_other l i (v ∷ vs) t (inr h) =
    at_sets_other (set l i v) (suc i) vs t (inr (omega arith)) ∙ get_or-set_other l i t v (pos 0) (λ e. omega arith)

pub at_sets : (l : List ℤ) (i : ℕ) (vs : List ℤ) (x : ℕ) → x < length vs → i + length vs ≤ length l → at (sets l i vs) (i + x) ≡ at vs x
at_sets l i [] x h b = absurd (omega arith)
at_sets l i (v ∷ vs) zero h b =
    let e : i + 0 ≡ i = omega arith in
    rw e (at_sets_other (set l i v) (suc i) vs i (inl (omega arith)) ∙ get_or-set_same l i v (pos 0) (omega arith))
at_sets l i (v ∷ vs) (suc x) h b =
    let e : i + suc x ≡ suc i + x = omega arith in
    rw e (at_sets (set l i v) (suc i) vs x (omega arith) (rw length-set (omega arith)))

pub sets_append : (l : List ℤ) (i : ℕ) (vs ws : List ℤ) → sets l i (vs ++ ws) ≡ sets (sets l i vs) (i + length vs) ws
sets_append l i [] ws = let e : i + 0 ≡ i = omega arith in rw e
sets_append l i (v ∷ vs) ws = let e : i + suc (length vs) ≡ suc i + length vs = omega arith in rw e (sets_append (set l i v) (suc i) vs ws)

-- ---- one more step

pub digit_list-none : (n : ℕ) (ds : List ℤ) → digit_list n 0 ds ≡ []
unfolding digit_list list_from
digit_list-none n ds = rw (mul-zero n)

pub digit_list-more : (n j : ℕ) (ds : List ℤ) → 0 < n → digit_list n (suc j) ds ≡ digit_list n j ds ++ digits_from ds (16 * j) n
digit_list-more n j ds p =
    ext_get_or (pos 0) _ _ (rw (length-digit_list, length-append, length-digit_list, length-list_from, mul-suc))
    (λ t l. by_case t (rw (length-digit_list, mul-suc) at l) (le_or_lt (n * j) t))
  where
    by_case : (t : ℕ) → t < n * j + n → (n * j ≤ t) ⊎ (t < n * j) → at (digit_list n (suc j) ds) t ≡ at (digit_list n j ds ++ digits_from ds (16 * j) n) t
    by_case t l (inr h) =
        at-digit_list n (suc j) ds t (rw mul-suc l)
        ∙ sym (get_or-append (digit_list n j ds) (digits_from ds (16 * j) n) (pos 0) t (rw length-digit_list h) ∙ at-digit_list n j ds t h)
    by_case t l (inl h) =
        let i = t - n * j in
        let e : t ≡ n * j + i = omega arith in
        let z : 0 + i ≡ i = omega arith in
        rw e
        (entry-digit_list n (suc j) ds j i (omega arith) (omega arith)
        ∙ sym (rw (length-digit_list n j ds) at (get_or-append-add (digit_list n j ds) (digits_from ds (16 * j) n) i (pos 0)) ∙ getD_list_from 0 n (λ x. at ds (16 * j + x)) i (omega arith) ∙ rw z))

pub digit_array-none : (n : ℕ) (v : List ℤ) → replicate 960 (pos 0) ≡ digit_array n 0 v
digit_array-none n v =
    ext_get_or (pos 0) (replicate 960 (pos 0)) (digit_array n 0 v) (sym (length-digit_array n 0 v))
    (λ t l. get_or-replicate 960 t (pos 0) (pos 0) l ∙ sym (at_outside n 0 v t l (inl (omega arith))))

-- one more step's digits, stored in their places
module _ (n j : ℕ) (v vs : List ℤ) (a : n ≤ 16) (b : j < 60) (e : length vs ≡ n) (h : (i : ℕ) → i < n → at vs i ≡ at v (n * j + i)) where
  abbrev stored : List ℤ
  stored = sets (digit_array n j v) (16 * j) vs

  -- in a row past the last, before that step, after it, and in it
  past_row : (t : ℕ) → t < 960 → n ≤ t % 16 → (j ≤ t / 16) ⊎ (t / 16 < j) → at stored t ≡ pos 0
  past_row t l r (inl p) = at_sets_other (digit_array n j v) (16 * j) vs t (inr (omega arith)) ∙ at_outside n j v t l (inr r)
  past_row t l r (inr p) = at_sets_other (digit_array n j v) (16 * j) vs t (inl (omega arith)) ∙ at_outside n j v t l (inr r)

  before : (t : ℕ) → t < 960 → t % 16 < n → t / 16 < j → at stored t ≡ at (digit_array n (suc j) v) t
  before t l r p = at_sets_other (digit_array n j v) (16 * j) vs t (inl (omega arith)) ∙ at-inside n j v t l p r ∙ sym (at-inside n (suc j) v t l (omega arith) r)

  after : (t : ℕ) → t < 960 → j < t / 16 → at stored t ≡ at (digit_array n (suc j) v) t
  after t l p =
      at_sets_other (digit_array n j v) (16 * j) vs t (inr (omega arith)) ∙ at_outside n j v t l (inl (omega arith)) ∙ sym (at_outside n (suc j) v t l (inl p))

  same : (t : ℕ) → t < 960 → t % 16 < n → t / 16 ≡ j → at stored t ≡ at (digit_array n (suc j) v) t
  same t l r p =
      let d : t ≡ 16 * j + t % 16 = omega arith in
      ap (at stored) d
      ∙ at_sets (digit_array n j v) (16 * j) vs (t % 16) (rw e r) (rw (length-digit_array n j v) (omega arith))
      ∙ h (t % 16) r
      ∙ sym (at-inside n (suc j) v t l (omega arith) r ∙ rw p)

  by_step : (t : ℕ) → t < 960 → t % 16 < n → (j ≤ t / 16) ⊎ (t / 16 < j) → (t / 16 ≤ j) ⊎ (j < t / 16) → at stored t ≡ at (digit_array n (suc j) v) t
  by_step t l r (inr p) o = before t l r p
  by_step t l r (inl p) (inl q) = same t l r (omega arith)
  by_step t l r (inl p) (inr q) = after t l q

  by_row : (t : ℕ) → t < 960 → (n ≤ t % 16) ⊎ (t % 16 < n) → at stored t ≡ at (digit_array n (suc j) v) t
  by_row t l (inl r) = past_row t l r (le_or_lt j (t / 16)) ∙ sym (at_outside n (suc j) v t l (inr r))
  by_row t l (inr r) = by_step t l r (le_or_lt j (t / 16)) (le_or_lt (t / 16) j)

  pub digit_array-more : stored ≡ digit_array n (suc j) v
  digit_array-more =
      ext_get_or (pos 0) _ _ (length-sets (digit_array n j v) (16 * j) vs ∙ length-digit_array n j v ∙ sym (length-digit_array n (suc j) v))
      (λ t l. by_row t (rw (length-sets, length-digit_array) at l) (le_or_lt n (t % 16)))
