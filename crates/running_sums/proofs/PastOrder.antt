-- No entry past the order is looked at: the proof of `SumsBelow`. Of states that 20 or 24 refuse nothing more
-- is looked at; of one that passes, the digits of the last step and the matrix below the order.
use mathlib.Core.Path.{◌≡◌, refl, sym, ap, ap₂}
use mathlib.Core.List.{List, [], ◌∷◌, ◌++◌}
use mathlib.Core.Logic.{◌⊎◌, inl, inr}
use Prim.Native.Nat.{ℕ, zero, suc, ◌<◌, ◌≤◌}
use native.Mathlib.Omega.{arith}
use borrow.Author.Tests.{ne_eqb}
use lib.Dec.{ltb}
use lib.IntN.{ℤ}
use lib.ListN.{length}
use Rattle.integers.specs.Flat.{entry}
use Rattle.integers.proofs.Maximum.{le_or_lt}
use Rattle.job.specs.Refusal.{Check, first_refusal}
use Rattle.job.proofs.Refusal.{refused-before}
use Rattle.state.specs.State.{all_steps, digits_of, state_checks, SameBelow}
use Rattle.state.specs.declared.State.{State}
use Rattle.state.proofs.PastOrder.{checked_alike}
use Rattle.running_sums.specs.RunningSums.{last_digit, state_words, word_count, sums_list_too_short, sums_checks, sums_refusal, sums_written, sums_list}
use Rattle.running_sums.specs.Theorems.{SumsBelow, SumsAlike}
use Rattle.running_sums.proofs.Columns.{columns_alike, words_alike}
use Rattle.running_sums.proofs.Calls.{may_copy_digits}

-- the digits of step k are alike where those of each step that there is room for are
step_alike : (ds ds' : List ℤ) (k i : ℕ) → k ≤ all_steps → ((j : ℕ) → j < all_steps → entry ds j i ≡ entry ds' j i) → digits_of ds k i ≡ digits_of ds' k i
step_alike ds ds' zero i l e = refl
step_alike ds ds' (suc k) i l e = e k l

module _ {s t : State} (e : SameBelow s t) (out : List ℤ) where
  abbrev c : ℕ
  c = first_refusal (state_checks s)

  -- refused by 20 or 24
  module _ (h : 0 < c) where
    refused : (sums_refusal s (length out) ≡ c) × (sums_refusal t (length out) ≡ c)
    unfolding sums_checks
    refused = (
      refused-before (state_checks s) ((23, sums_list_too_short s (length out)) ∷ []) c h refl,
      refused-before (state_checks t) ((23, sums_list_too_short t (length out)) ∷ []) c h (ap first_refusal (sym (checked_alike e))),
    )

    refused_alike : SumsAlike s t out
    unfolding sums_written sums_list
    refused_alike =
        let q = ne_eqb c 0 (λ z. omega arith) in
        record { answer = rw (refused.0, refused.1, q) refl; list = rw (refused.0, refused.1, q) refl }

  -- not refused by them
  module _ (h : c ≤ 0) where
    digit_alike : (i : ℕ) → i < s.header.n → last_digit s i ≡ last_digit t i
    digit_alike i l =
        let passed : 0 ≡ c = omega arith in
        rw (← e.steps) (step_alike s.digits t.digits s.k i (may_copy_digits s out passed).0 (λ j m. e.digits j i m l))

    count_alike : word_count s ≡ word_count t
    count_alike = rw (← e.header, columns_alike (last_digit s) (last_digit t) s.header.n digit_alike) refl

    words_same : state_words s ≡ state_words t
    words_same = rw (← e.header) (words_alike (last_digit s) (last_digit t) s.header.n s.g t.g s.header.n digit_alike (λ i k l m. e.matrix i k l m))

    refusal_alike : sums_refusal s (length out) ≡ sums_refusal t (length out)
    unfolding sums_checks
    refusal_alike = ap₂ (λ (xs : List Check) (w : ℕ). first_refusal (xs ++ ((23, ltb (length out) w) ∷ []))) (checked_alike e) count_alike

    passing_alike : SumsAlike s t out
    unfolding sums_written sums_list
    passing_alike = record { answer = rw (refusal_alike, count_alike) refl; list = rw (refusal_alike, count_alike, words_same) refl }

pub sums_below : SumsBelow
sums_below s t out e = by_case (le_or_lt (first_refusal (state_checks s)) 0)
  where
    by_case : (first_refusal (state_checks s) ≤ 0) ⊎ (0 < first_refusal (state_checks s)) → SumsAlike s t out
    by_case (inl l) = passing_alike e out l
    by_case (inr l) = refused_alike e out l
