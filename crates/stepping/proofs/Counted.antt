-- The counts of a loop over steps: in how many of the steps up to the j-th each column's digit is other than
-- 0, and that after the last one the counts give the additions. Cited by the proof of `run`.
use mathlib.Core.Path.{◌≡◌, refl, sym, ap, ◌∙◌}
use mathlib.Core.List.{List}
use Prim.Native.Nat.{ℕ, suc, ◌+◌, ◌-◌, ◌*◌, ◌<◌, ◌≤◌}
use native.Mathlib.Numerals.{add-one}
use native.Mathlib.Omega.{arith}
use lib.IntN.{ℤ}
use lib.ListN.{length, get_or}
use Rattle.integers.specs.{Flat.at, Flat.entry, Sum.total}
use Rattle.integers.proofs.Flat.{at-flat_vector}
use Rattle.integers.proofs.Sum.{total-zero, total-suc, total_ext, total_le, term_le_total}
use Rattle.additions.specs.Additions.{nonzero, step_additions}
use Rattle.additions.proofs.Laws.{nonzero-most, by_columns, step_additions_ext}
use Rattle.state.specs.State.{digits_of}
use Rattle.state.specs.declared.State.{State}
use Rattle.stepping.specs.Steps.{last_digits, steps, next_additions, steps_additions}
use Rattle.counts.specs.Inner.{Counts, MayCount, MayMultiply, column_entries}
use Rattle.stepping.proofs.Steps.{steps-header, steps_k}
use Rattle.stepping.proofs.Stepping.{steps_g}
use Rattle.counts.proofs.Counting.{entries-few}

-- 1 where the digit of column i is other than 0 after t steps
abbrev pub adds : (s : State) (i t : ℕ) → ℕ
adds s i t = nonzero (at (last_digits (steps s t)) i)

-- t has for each column how many of the steps from none to j leave such a digit: after j steps of s, those of
-- the step before the first included
pub record Counted (s : State) (j : ℕ) (t : List ℕ) : Type 0 where
  pub size : length t ≡ 16
  pub columns : (i : ℕ) → i < s.header.n → get_or t i 0 ≡ total (suc j) (adds s i)

times_most : (s : State) (j i : ℕ) → total j (adds s i) ≤ j
times_most s j i = omega (arith, total_le j (adds s i) 1 (λ t l. nonzero-most (at (last_digits (steps s t)) i)))

-- none yet
pub counted_start : (s : State) {t : List ℕ} → s.header.n ≤ 16 → Counts 16 (λ i. nonzero (digits_of s.digits s.k i)) t → Counted s 0 t
unfolding steps
counted_start s order h = record { size = h.size; columns = λ i l. h.columns i (omega arith) ∙ first i l }
  where
    first : (i : ℕ) → i < s.header.n → nonzero (digits_of s.digits s.k i) ≡ total 1 (adds s i)
    first i l =
        rw (← at-flat_vector s.header.n (digits_of s.digits s.k) i order l)
        (omega (arith, total-suc 0 (adds s i), total-zero (adds s i)))

module _ {s : State} {j : ℕ} {t : List ℕ} (h : Counted s j t) where
  abbrev n : ℕ
  n = s.header.n

  -- one more fits
  pub may-count : j < 60 → MayCount n t
  may-count l = record { size = h.size; room = λ i m. omega (arith, h.columns i m, times_most s (suc j) i) }

  -- one step more: `chosen` are its digits
  pub counted_next : {chosen : List ℤ} {t' : List ℕ} → chosen ≡ last_digits (steps s (j + 1)) → Counts n (λ i. get_or t i 0 + nonzero (at chosen i)) t' → Counted s (j + 1) t'
  counted_next {chosen} {t'} e h' = record { size = h'.size; columns = λ i l. h'.columns i l ∙ rw e (more i l) }
    where
      more : (i : ℕ) → i < n → get_or t i 0 + adds s i (j + 1) ≡ total (suc (j + 1)) (adds s i)
      more i l = rw add-one (rw (h.columns i l) (sym (total-suc (suc j) (adds s i))))

  -- without the digits ds of the last step, with the entries e: `k` is that step
  module _ {k : ℕ} {ds : List ℤ} {e : List ℕ} (order : n ≤ 16) (ek : k ≡ s.k + j) (ed : ds ≡ (steps s j).digits) (counts : Counts n (column_entries n s.g) e) where
    last_is : (i : ℕ) → i < n → nonzero (digits_of ds k i) ≡ adds s i j
    last_is i l =
        rw (ek, ed, ← steps_k s j)
        (ap nonzero (sym (at-flat_vector (steps s j).header.n (digits_of (steps s j).digits (steps s j).k) i (rw (steps-header s j) order) (rw (steps-header s j) l))))

    pub may_multiply : j ≤ 60 → MayMultiply n e t (digits_of ds k)
    may_multiply m =
        record {
          enough = λ i l. omega (arith, last_is i l, h.columns i l, term_le_total (suc j) (adds s i) j (omega arith));
          few = λ i l. omega (arith, h.columns i l, times_most s (suc j) i);
          entries = λ i l. omega (arith, counts.columns i l, entries-few s.g i n);
        }

    -- what is left counts the steps made
    counts_are : (i : ℕ) → i < n → get_or t i 0 - nonzero (digits_of ds k i) ≡ total j (adds s i)
    counts_are i l = omega (arith, last_is i l, h.columns i l, total-suc j (adds s i))

    -- a step's additions are those of its state
    of_state : (u : ℕ) → step_additions n (entry s.g) (at (last_digits (steps s u))) ≡ next_additions (steps s u)
    of_state u =
        rw (steps-header s u, steps_g s u)
        (step_additions_ext n (entry s.g) (entry s.g) _ _ (λ i m l o. refl) (λ i l. at-flat_vector n _ i order l))

    -- `a` is what `additions` gave
    pub additions_are : {a : ℕ} → a ≡ total n (λ i. (get_or t i 0 - nonzero (digits_of ds k i)) * get_or e i 0) → a ≡ steps_additions s j
    unfolding steps_additions
    additions_are o =
        o
        ∙ total_ext n _ _ (λ i l. rw (counts_are i l, counts.columns i l) refl)
        ∙ by_columns n j (entry s.g) (λ u. at (last_digits (steps s u)))
        ∙ total_ext j _ _ (λ u l. of_state u)
