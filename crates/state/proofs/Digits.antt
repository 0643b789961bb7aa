-- What `beyond` says to a reader, and that a mark for each row finds it. Cited by the proofs of `beyond` and
-- `some_row`, by `PassesLimits` and by those who look at digits.
use mathlib.Core.Path.{◌≡◌, refl, sym, ◌∙◌}
use mathlib.Core.Bool.{Bool, true, false, true≢false}
use mathlib.Core.List.{List}
use mathlib.Core.Logic.{◌↔◌, ◌⊎◌, inl, inr}
use Prim.Native.Nat.{ℕ, zero, suc, ◌+◌, ◌<◌, ◌≤◌}
use native.Mathlib.Omega.{arith}
use borrow.Author.Tests.{lt-ltb, le-ltb, ltb-false}
use lib.Dec.{ltb}
use lib.IntN.{ℤ, nat_abs}
use lib.ListN.{length, take, get_or}
use lib.Seq.{length-take-le}
use Rattle.std.specs.Bool.{MatchBool}
use Rattle.std.specs.List.{AllWithin, HoldsAt}
use Rattle.std.proofs.lemmas.List.{get_or-take}
use Rattle.integers.specs.Flat.{entry}
use Rattle.integers.proofs.Maximum.{le_or_lt}
use Rattle.system.specs.Rows.{first_row}
use Rattle.state.specs.State.{row_beyond, beyond}
use Rattle.state.specs.Inner.{mark_of, RowWithin, RowsBeyond}
use Rattle.system.proofs.FirstRow.{no_row}
use Rattle.job.proofs.Refusal.{or_fails, same_test}

-- a row of one step
row_within : (n b : ℕ) (ds : List ℤ) (j : ℕ) → (row_beyond n b ds j ≡ false) ↔ ((i : ℕ) → i < n → nat_abs (entry ds j i) ≤ b)
row_within n b ds j =
    let r = no_row n (λ i. ltb b (nat_abs (entry ds j i))) in
    ((λ e i l. ltb-false b (nat_abs (entry ds j i)) ((r.0 e).never i l)), (λ h. r.1 (record { never = λ i l. le-ltb b (nat_abs (entry ds j i)) (h i l) })))

-- the steps from j on: the first, and the others
steps-within : (b : ℕ) (ds : List ℤ) (j e i : ℕ) → nat_abs (entry ds j i) ≤ b → RowWithin b ds (suc j) e i → RowWithin b ds j e i
steps-within b ds j e i h k t l m = by_case (le_or_lt t j)
  where
    by_case : (t ≤ j) ⊎ (j < t) → nat_abs (entry ds t i) ≤ b
    by_case (inl q) = let f : t ≡ j = omega arith in rw f h
    by_case (inr q) = k t q m

-- no digit is beyond the bound exactly when those of the rows below n are within it in each of the c steps
-- after the first j
pub beyond_false : (n b : ℕ) (ds : List ℤ) (j c : ℕ) → (beyond n b ds j c ≡ false) ↔ ((i : ℕ) → i < n → RowWithin b ds j (j + c) i)
unfolding beyond
beyond_false n b ds j zero = ((λ e i l t g h. absurd (omega arith)), (λ h. refl))
beyond_false n b ds j (suc c) =
    let o = or_fails (row_beyond n b ds j) (beyond n b ds (suc j) c) in
    let r = row_within n b ds j in
    let s = beyond_false n b ds (suc j) c in
    let m : j + suc c ≡ suc j + c = omega arith in
    rw m (
      (λ e i l. steps-within b ds j (suc j + c) i (r.0 (o.0 e).0 i l) (s.0 (o.0 e).1 i l)),
      (λ h. o.1 (r.1 (λ i l. h i l j (omega arith) (omega arith)), s.1 (λ i l t g k. h i l t (omega arith) k))),
    )

-- by marks: a row below n has one exactly when a digit is beyond the bound
pub marks_beyond : (n b : ℕ) (ds : List ℤ) (j c : ℕ) (m : List ℕ) → n ≤ 16 → RowsBeyond b ds j (λ i. j + c) m
    → ltb 0 (first_row n (mark_of m)) ≡ beyond n b ds j c
marks_beyond n b ds j c m h k =
    let f = beyond_false n b ds j c in
    let r = no_row n (mark_of m) in
    same_test (ltb 0 (first_row n (mark_of m))) (beyond n b ds j c)
    (λ e. f.1 (λ i l. (k.unmarked i (omega arith)).0 ((r.0 e).never i l)))
    (λ e. r.1 (record { never = λ i l. (k.unmarked i (omega arith)).1 (f.0 e i l) }))

-- ---- a mark among those of the first n rows, as `any` tells it

pub some_marked : (n : ℕ) (m : List ℕ) (t : Bool) → n ≤ length m
    → MatchBool t ((k : ℕ) × (k < length (take n m)) × HoldsAt (λ a. 0 < a) (take n m) k) (AllWithin (λ a. a ≤ 0) (take n m) 0 (length (take n m)))
    → t ≡ ltb 0 (first_row n (mark_of m))
some_marked n m true l h = by_test (ltb 0 (first_row n (mark_of m))) not_none
  where
    by_test : (b : Bool) → (b ≡ false → ⊥) → true ≡ b
    by_test true f = refl
    by_test false f = absurd (f refl)

    not_none : ltb 0 (first_row n (mark_of m)) ≡ false → ⊥
    not_none e =
        let i : h.0 < n = omega (arith, h.1, length-take-le n m l) in
        let a : 0 < get_or m h.0 0 = rw (get_or-take n m h.0 0 i) at (h.2 0) in
        true≢false (sym (lt-ltb 0 (get_or m h.0 0) a) ∙ ((no_row n (mark_of m)).0 e).never h.0 i)
some_marked n m false l h = sym ((no_row n (mark_of m)).1 (record { never = unmarked }))
  where
    unmarked : (j : ℕ) → j < n → mark_of m j ≡ false
    unmarked j q = le-ltb 0 (get_or m j 0) (rw (get_or-take n m j 0 q) at (h j 0 (omega arith) (omega (arith, length-take-le n m l))))
