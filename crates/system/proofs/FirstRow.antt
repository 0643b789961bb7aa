-- Laws of `first_row`, the number from 1 of the first of n rows whose test is true, and 0 where none is.
-- Cited by the proofs of the searches for a heavy row and for a large right-hand side, and by `Verdicts`.
use mathlib.Core.Path.{◌≡◌, refl, sym, ◌∙◌}
use mathlib.Core.Bool.{Bool, true, false, cond, true≢false}
use mathlib.Core.Logic.{◌↔◌, ◌⊎◌, inl, inr}
use Prim.Native.Nat.{ℕ, zero, suc, ◌+◌, ◌<◌, ◌≤◌}
use native.Mathlib.Numerals.{add-one}
use native.Mathlib.Omega.{arith}
use borrow.Author.Tests.{lt-ltb, le-ltb, ltb-false}
use lib.Dec.{ltb}
use Rattle.integers.proofs.Maximum.{le_or_lt, below_suc}
use Rattle.std.specs.Prelude.{Some, None, is_some}
use Rattle.system.specs.Rows.{first_row, row_given, first_row_from, Never, FirstRowIs, FirstRowFound, FirstRowNone}

pub never-zero : (t : ℕ → Bool) → Never 0 t
never-zero t = record { never = λ j l. absurd (omega arith) }

never-suc : {t : ℕ → Bool} {n : ℕ} → Never n t → t n ≡ false → Never (suc n) t
never-suc {t} {n} h e = record { never = below_suc (λ j. t j ≡ false) n e h.never }

-- a row's number a tells which of the two it is
data Outcome (n : ℕ) (t : ℕ → Bool) (a : ℕ) : Type 0 where
  none : a ≡ 0 → Never n t → Outcome n t a
  found : (i : ℕ) → a ≡ suc i → FirstRowIs n t i → Outcome n t a

module _ (t : ℕ → Bool) where
  outcome_from : (i k : ℕ) → Never i t → Outcome (i + k) t (first_row_from i k t)
  unfolding first_row_from
  outcome_from i zero h = let n : i + 0 ≡ i = omega arith in none refl (rw n h)
  outcome_from i (suc k) h = by_test (t i) refl (outcome_from (suc i) k)
    where
      by_test : (b : Bool) → t i ≡ b → (Never (suc i) t → Outcome (suc i + k) t (first_row_from (suc i) k t))
          → Outcome (i + suc k) t (cond b (suc i) (first_row_from (suc i) k t))
      by_test true e later = found i refl (record { inside = omega arith; here = e; before = h })
      by_test false e later =
          let n : i + suc k ≡ suc i + k = omega arith in
          rw n (later (never-suc h e))

  outcome : (n : ℕ) → Outcome n t (first_row n t)
  outcome n = let e : 0 + n ≡ n = omega arith in rw e at (outcome_from 0 n (never-zero t))

  only_one : (n m i r : ℕ) → FirstRowIs n t i → FirstRowIs m t r → r ≡ i
  only_one n m i r f g = by_order (le_or_lt i r) (le_or_lt r i)
    where
      by_order : (i ≤ r) ⊎ (r < i) → (r ≤ i) ⊎ (i < r) → r ≡ i
      by_order (inl a) (inl b) = omega arith
      by_order (inr a) b = absurd (true≢false (sym g.here ∙ f.before.never r a))
      by_order (inl a) (inr b) = absurd (true≢false (sym f.here ∙ g.before.never i b))

-- ---- what the number given says

pub first_row_is : FirstRowFound
first_row_is t n i = (to (outcome t n), of (outcome t n))
  where
    to : Outcome n t (first_row n t) → first_row n t ≡ suc i → FirstRowIs n t i
    to (none z h) e = absurd (omega arith)
    to (found r s f) e = let q : r ≡ i = omega arith in rw q at f

    of : Outcome n t (first_row n t) → FirstRowIs n t i → first_row n t ≡ suc i
    of (none z h) f = absurd (true≢false (sym f.here ∙ h.never i f.inside))
    of (found r s g) f = rw (only_one t n n i r f g) at s

pub first_row-none : FirstRowNone
first_row-none t n = (to (outcome t n), of (outcome t n))
  where
    to : Outcome n t (first_row n t) → first_row n t ≡ 0 → Never n t
    to (none z h) e = h
    to (found r s f) e = absurd (omega arith)

    of : Outcome n t (first_row n t) → Never n t → first_row n t ≡ 0
    of (none z h) v = z
    of (found r s f) v = absurd (true≢false (sym f.here ∙ v.never r f.inside))

-- no row is given
pub no_row : (n : ℕ) (t : ℕ → Bool) → (ltb 0 (first_row n t) ≡ false) ↔ Never n t
no_row n t =
    ((λ e. (first_row-none t n).0 (none (ltb-false 0 (first_row n t) e))), (λ h. le-ltb 0 (first_row n t) (omega (arith, (first_row-none t n).1 h))))
  where
    none : first_row n t ≤ 0 → first_row n t ≡ 0
    none l = omega arith

-- ---- only the tests of the n rows count

from_ext : (i k : ℕ) (t s : ℕ → Bool) → ((j : ℕ) → j < i + k → t j ≡ s j) → first_row_from i k t ≡ first_row_from i k s
unfolding first_row_from
from_ext i zero t s h = refl
from_ext i (suc k) t s h = rw (h i (omega arith), from_ext (suc i) k t s (λ j l. h j (omega arith)))

pub first_row_ext : (n : ℕ) (t s : ℕ → Bool) → ((j : ℕ) → j < n → t j ≡ s j) → first_row n t ≡ first_row n s
first_row_ext n t s h = from_ext 0 n t s (λ j l. h j (omega arith))

-- ---- a search, row by row

pub never-more : {t : ℕ → Bool} {i : ℕ} → Never i t → t i ≡ false → Never (i + 1) t
never-more h e = rw add-one (never-suc h e)

-- a number found is given, and 0 is none
given-found : (i n : ℕ) → i + 1 ≡ n → Some (i + 1) ≡ row_given n
given-found i n e = rw (← e) (rw add-one refl)

given-none : (n : ℕ) → 0 ≡ n → None ≡ row_given n
given-none n e = rw (← e) refl

-- a row is given exactly where its number is not 0
pub given_test : (n : ℕ) → is_some (row_given n) ≡ ltb 0 n
given_test zero = refl
given_test (suc n) = sym (lt-ltb 0 (suc n) (omega arith))

module _ (t : ℕ → Bool) (n i : ℕ) (h : Never i t) where
  pub search_found : i < n → t i ≡ true → Some (i + 1) ≡ row_given (first_row n t)
  search_found l e = given-found i _ (add-one i ∙ sym ((first_row_is t n i).1 (record { inside = l; here = e; before = h })))

  pub search_over : i ≡ n → None ≡ row_given (first_row n t)
  search_over e = given-none _ (sym ((first_row-none t n).1 (rw e at h)))
