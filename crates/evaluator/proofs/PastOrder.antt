-- No call looks at an entry past the order or changes one, and after a load each is 0: the proofs of the
-- statements of `specs/PastOrder.antt`.
use mathlib.Core.Path.{◌≡◌, refl, sym, ap, ap₂, ◌∙◌}
use mathlib.Core.Bool.{Bool, cond}
use mathlib.Core.List.{List, [], ◌∷◌, ◌++◌}
use mathlib.Core.Logic.{◌⊎◌, inl, inr}
use Prim.Native.Nat.{ℕ, zero, suc, ◌+◌, ◌*◌, ◌-◌, ◌<◌, ◌≤◌}
use native.Mathlib.Omega.{arith}
use borrow.Author.Tests.{le-ltb}
use lib.Dec.{ltb}
use lib.IntN.{ℤ, pos, ◌-ℤ◌, ◌*ℤ◌}
use lib.ListN.{length, drop, get_or-replicate}
use Rattle.integers.specs.Flat.{at, entry, flat_vector}
use Rattle.integers.proofs.Flat.{getD_list_from}
use Rattle.integers.proofs.Stores.{length-stores, stores_ext, stores_other}
use Rattle.integers.proofs.Maximum.{le_or_lt}
use Rattle.integers.proofs.Product.{dot_ext}
use Rattle.integers.proofs.Sum.{total_ext}
use Rattle.additions.proofs.Laws.{step_additions_ext}
use Rattle.job.specs.Header.{radix}
use Rattle.job.proofs.Limits.{last-small}
use Rattle.system.proofs.Arrays.{past_order}
use Rattle.job.specs.Refusal.{Check, first_refusal}
use Rattle.job.proofs.Refusal.{refused-before}
use Rattle.system.specs.System.{matrix_of, right_side_of}
use Rattle.job.specs.declared.Header.{Header}
use Rattle.stepping.specs.Steps.{finer, stepped_digits, stepped_residuals, last_digits, chosen_digits, residuals_left, one_step, steps, next_additions, steps_additions}
use Rattle.recurrence.specs.Recurrence.{shifted, next_digit, next_residual, reading, select}
use Rattle.stepping.proofs.Stepped.{length-stepped_residuals, stepped_residual_past}
use Rattle.header.specs.Header.{header_of}
use Rattle.frame.specs.Frame.{frame_numbers}
use Rattle.state.specs.State.{all_steps, digits_of, state_last, idle_state, fresh, state_checks, PassesLimits, SameBelow}
use Rattle.state.specs.declared.State.{State}
use Rattle.state.proofs.PastOrder.{checked_alike}
use Rattle.state.proofs.Lists.{list_from_alike, flat_vector_alike, stores_alike}
use Rattle.evaluator.specs.Evaluator.{loaded, no_budget, all_made, advance_checks, advance_refusal, steps_made, advanced, readings_list_too_short, readings_checks, readings_refusal, readings_list}
use Rattle.evaluator.specs.PastOrder.{SamePast, ZeroPast, SameLengths, LoadZeros, AdvanceBelow, AdvanceKeeps, ReadingsBelow}
use Rattle.evaluator.proofs.Calls.{smaller-most}
use Rattle.stepping.proofs.Steps.{steps_k}
use Rattle.evaluator.proofs.Kept.{passes_exactly}
use Rattle.evaluator.proofs.Theorems.{refused_load, accepted_load, refused-advance, refused-readings, made-smaller}

-- ---- load

-- an array of a vector or a matrix has zeros past the order
vector_past : (n : ℕ) (B : ℕ → ℤ) (i : ℕ) → i < 16 → n ≤ i → at (flat_vector n B) i ≡ pos 0
vector_past n B i h l =
    let e : 0 + i ≡ i = omega arith in
    getD_list_from 0 16 (λ i. cond (ltb i n) (B i) (pos 0)) i h ∙ rw (e, le-ltb i n l)

-- a job with no steps made, and the idle state
fresh-zeros : (h : Header) (v : List ℤ) → ZeroPast (fresh h v)
unfolding fresh
fresh-zeros h v =
    record {
      matrix = past_order h.n (matrix_of h v);
      residuals = vector_past h.n (right_side_of h v);
      digits = λ j i m l o. get_or-replicate 960 (16 * j + i) (pos 0) (pos 0) (omega arith);
    }

idle-zeros : ZeroPast idle_state
unfolding idle_state
idle-zeros =
    record {
      matrix = λ i j a b o. get_or-replicate 256 (16 * i + j) (pos 0) (pos 0) (omega arith);
      residuals = λ i l o. get_or-replicate 16 i (pos 0) (pos 0) l;
      digits = λ j i m l o. get_or-replicate 960 (16 * j + i) (pos 0) (pos 0) (omega arith);
    }

pub load_zeros : LoadZeros
load_zeros bytes = by_case (le_or_lt (loaded bytes).refusal 0)
  where
    by_case : ((loaded bytes).refusal ≤ 0) ⊎ (0 < (loaded bytes).refusal) → ZeroPast (loaded bytes).state
    by_case (inl l) = rw (accepted_load bytes (omega arith)) (fresh-zeros (header_of bytes) (frame_numbers bytes))
    by_case (inr l) = rw (refused_load bytes l) idle-zeros

-- ---- one step of arrays that agree below n; d and d' are the digits of the step before

module _ (n r c p u : ℕ) (g g' z z' : List ℤ) {d d' : List ℤ} (eg : (i j : ℕ) → i < n → j < n → entry g i j ≡ entry g' i j) (ez : (i : ℕ) → i < n → at z i ≡ at z' i)
    (ed : d ≡ d') where
  shifted_alike : (i : ℕ) → i < n → shifted n r (finer c (entry g)) (at z) (at d) i ≡ shifted n r (finer c (entry g')) (at z') (at d') i
  unfolding shifted
  shifted_alike i l = rw (ed, ez i l, dot_ext n (finer c (entry g) i) (finer c (entry g') i) (at d') (at d') (λ j m. rw (eg i j l m)) (λ j m. refl))

  digits_alike : stepped_digits n r c p u g z d ≡ stepped_digits n r c p u g' z' d'
  unfolding stepped_digits next_digit
  digits_alike = stores_ext _ _ _ _ n (λ i l. ap (λ (w : ℤ). select p u w) (shifted_alike i l))

  residuals_alike : length z ≡ length z' → (i : ℕ) → i < n → at (stepped_residuals n r c p u g z d) i ≡ at (stepped_residuals n r c p u g' z' d') i
  unfolding stepped_residuals next_residual next_digit
  residuals_alike size i l =
      stores_alike z z' (λ i. i) _ _ n i size (λ t m. ap (λ (w : ℤ). w -ℤ pos u *ℤ select p u w) (shifted_alike t m)) (ez i l)

-- these are the same
before_alike : (n k : ℕ) (ds ds' : List ℤ) → k ≤ all_steps → ((j i : ℕ) → j < all_steps → i < n → entry ds j i ≡ entry ds' j i)
    → flat_vector n (digits_of ds k) ≡ flat_vector n (digits_of ds' k)
before_alike n zero ds ds' l h = refl
before_alike n (suc k) ds ds' l h = flat_vector_alike n (entry ds k) (entry ds' k) (λ i m. h k i (omega arith) m)

last_alike : (n k : ℕ) (ds ds' : List ℤ) → k ≤ all_steps → ((j i : ℕ) → j < all_steps → i < n → entry ds j i ≡ entry ds' j i)
    → (i : ℕ) → i < n → digits_of ds k i ≡ digits_of ds' k i
last_alike n zero ds ds' l h i m = refl
last_alike n (suc k) ds ds' l h i m = h k i (omega arith) m

-- ---- one step of states that agree below the order

module _ {s t : State} (e : SameBelow s t) (l : s.k ≤ all_steps) where
  abbrev n : ℕ
  n = s.header.n

  chosen_alike : chosen_digits s ≡ chosen_digits t
  chosen_alike =
      rw (← e.header, ← e.scale, ← e.steps)
      (digits_alike n _ _ _ _ s.g t.g s.z t.z e.matrix e.residuals (before_alike n s.k s.digits t.digits l e.digits))

  left_alike : length s.z ≡ length t.z → (i : ℕ) → i < n → at (residuals_left s) i ≡ at (residuals_left t) i
  left_alike size i m =
      rw (← e.header, ← e.scale, ← e.steps)
      (residuals_alike n _ _ _ _ s.g t.g s.z t.z e.matrix e.residuals (before_alike n s.k s.digits t.digits l e.digits) size i m)

  step_alike : SameLengths s t → SameBelow (one_step s) (one_step t)
  unfolding one_step
  step_alike size =
      record {
        busy = e.busy;
        header = e.header;
        scale = e.scale;
        steps = ap suc e.steps;
        matrix = e.matrix;
        residuals = left_alike size.residuals;
        digits = λ j i a m.
            rw (← chosen_alike, ← e.header, ← e.steps)
            (stores_alike s.digits t.digits (λ i. 16 * s.k + i) _ _ n (16 * j + i) size.digits (λ t o. refl) (e.digits j i a m));
      }

  step_lengths : SameLengths s t → SameLengths (one_step s) (one_step t)
  unfolding one_step
  step_lengths size =
      record {
        residuals = length-stepped_residuals _ _ _ _ _ s.g s.z (last_digits s) ∙ size.residuals ∙ sym (length-stepped_residuals _ _ _ _ _ t.g t.z (last_digits t));
        digits = length-stores s.digits _ _ s.header.n ∙ size.digits ∙ sym (length-stores t.digits _ _ t.header.n);
      }

-- ---- any steps that there is room for

steps_alike : {s t : State} (j : ℕ) → s.k + j ≤ all_steps → SameBelow s t → SameLengths s t
    → SameBelow (steps s j) (steps t j) × SameLengths (steps s j) (steps t j)
unfolding steps
steps_alike zero l e size = (e, size)
steps_alike {s} (suc j) l e size =
    let p = steps_alike j (omega arith) e size in
    (step_alike p.0 (omega (arith, steps_k s j)) p.1, step_lengths p.0 (omega (arith, steps_k s j)) p.1)

-- they cost the same
next_alike : {s t : State} → s.k ≤ all_steps → SameBelow s t → next_additions s ≡ next_additions t
next_alike {s} {t} l e =
    rw (← e.header, ← e.steps)
    (step_additions_ext s.header.n (entry s.g) (entry t.g) _ _ e.matrix (last_alike s.header.n s.k s.digits t.digits l e.digits))

additions_alike : {s t : State} (j : ℕ) → s.k + j ≤ all_steps → SameBelow s t → SameLengths s t → steps_additions s j ≡ steps_additions t j
unfolding steps_additions
additions_alike {s} j l e size =
    total_ext j _ _ (λ u m. next_alike (omega (arith, steps_k s u)) (steps_alike u (omega arith) e size).0)

-- ---- what steps keep, with room or without

step_past : (s : State) → SamePast s (one_step s)
unfolding one_step
step_past s =
    record {
      header = refl;
      matrix = λ i j a b o. refl;
      residuals = λ i l o. sym (stepped_residual_past s.header.n _ _ _ _ s.g s.z (last_digits s) i o);
      digits = λ j i m l o. sym (stores_other s.digits (λ i. 16 * s.k + i) _ s.header.n (16 * j + i) (λ t a e. apart j i t l o a e));
    }
  where
    apart : (j i t : ℕ) → i < 16 → s.header.n ≤ i → t < s.header.n → 16 * j + i ≡ 16 * s.k + t → ⊥
    apart j i t l o a e = omega arith

steps_past : (s : State) (j : ℕ) → SamePast s (steps s j)
unfolding steps
steps_past s zero = record { header = refl; matrix = λ i j a b o. refl; residuals = λ i l o. refl; digits = λ j i m l o. refl }
steps_past s (suc j) =
    let p = steps_past s j in
    let q = step_past (steps s j) in
    record {
      header = p.header ∙ q.header;
      matrix = λ i k a b o. p.matrix i k a b o ∙ q.matrix i k a b (rw p.header at o);
      residuals = λ i l o. p.residuals i l o ∙ q.residuals i l (rw p.header at o);
      digits = λ k i m l o. p.digits k i m l o ∙ q.digits k i m l (rw p.header at o);
    }

-- ---- advance

-- checks that pass with more after them
accepted_first : (xs ys : List Check) → first_refusal (xs ++ ys) ≡ 0 → first_refusal xs ≡ 0
accepted_first xs ys e = by_case (le_or_lt (first_refusal xs) 0)
  where
    by_case : (first_refusal xs ≤ 0) ⊎ (0 < first_refusal xs) → first_refusal xs ≡ 0
    by_case (inl l) = omega arith
    by_case (inr l) = absurd (omega (arith, refused-before xs ys (first_refusal xs) l refl))

-- a state that advance takes passes its limits, and so does one whose readings are given
pub taken-passes-limits : (s : State) (ys : List Check) → first_refusal (state_checks s ++ ys) ≡ 0 → PassesLimits s
taken-passes-limits s ys e = ((passes_exactly s).0 (accepted_first (state_checks s) ys e)).1

module _ {s t : State} (budget : ℕ) (e : SameBelow s t) where
  all_made_alike : all_made s ≡ all_made t
  all_made_alike = rw (e.header, e.scale, e.steps)

  advance-refused_alike : advance_refusal s budget ≡ advance_refusal t budget
  unfolding advance_checks
  advance-refused_alike =
      ap₂ (λ (xs : List Check) (b : Bool). first_refusal (xs ++ ((22, no_budget budget) ∷ (21, b) ∷ []))) (checked_alike e) all_made_alike

  made_alike : steps_made s budget ≡ steps_made t budget
  unfolding steps_made
  made_alike = rw (advance-refused_alike, e.header, e.scale, e.steps)

  -- there is room for the steps that are made
  made-room : advance_refusal s budget ≡ 0 → s.k + steps_made s budget ≤ all_steps
  unfolding advanced advance_checks
  made-room z =
      let p = taken-passes-limits s ((22, no_budget budget) ∷ (21, all_made s) ∷ []) z in
      omega (arith, made-smaller s budget z, smaller-most budget (state_last s - s.k), p.steps, last-small s.header s.scale p.scaled)

  counted_alike : SameLengths s t → (advanced s budget).additions ≡ (advanced t budget).additions
  unfolding advanced
  counted_alike size = by_case (le_or_lt (advance_refusal s budget) 0)
    where
      by_case : (advance_refusal s budget ≤ 0) ⊎ (0 < advance_refusal s budget) → (advanced s budget).additions ≡ (advanced t budget).additions
      by_case (inl l) = rw (← made_alike) (additions_alike (steps_made s budget) (made-room (omega arith)) e size)
      by_case (inr l) =
          let r : 0 < advance_refusal t budget = rw advance-refused_alike at l in
          (refused-advance s budget l).2 ∙ sym (refused-advance t budget r).2

  alike_after : SameLengths s t
      → SameBelow (advanced s budget).state (advanced t budget).state × SameLengths (advanced s budget).state (advanced t budget).state
  unfolding advanced
  alike_after size = by_case (le_or_lt (advance_refusal s budget) 0)
    where
      by_case : (advance_refusal s budget ≤ 0) ⊎ (0 < advance_refusal s budget)
          → SameBelow (advanced s budget).state (advanced t budget).state × SameLengths (advanced s budget).state (advanced t budget).state
      by_case (inl l) = rw (← made_alike) (steps_alike (steps_made s budget) (made-room (omega arith)) e size)
      by_case (inr l) =
          let r : 0 < advance_refusal t budget = rw advance-refused_alike at l in
          rw ((refused-advance s budget l).0, (refused-advance t budget r).0) (e, size)

pub advance_below : AdvanceBelow
unfolding advanced
advance_below s t budget e =
    record {
      refusal = advance-refused_alike budget e;
      made = made_alike budget e;
      additions = counted_alike budget e;
      state = λ size. (alike_after budget e size).0;
      lengths = λ size. (alike_after budget e size).1;
    }

pub advance_keeps : AdvanceKeeps
unfolding advanced
advance_keeps s budget = steps_past s (steps_made s budget)

-- ---- readings

-- the reading of a row is made of its own digits of the k steps
reading_ext : (r : ℕ) (d d' : ℕ → ℕ → ℤ) (k i : ℕ) → ((j : ℕ) → j < k → d (suc j) i ≡ d' (suc j) i) → reading r d k i ≡ reading r d' k i
unfolding reading
reading_ext r d d' zero i h = refl
reading_ext r d d' (suc k) i h = rw (h k (omega arith), reading_ext r d d' k i (λ j l. h j (omega arith)))

module _ {s t : State} (e : SameBelow s t) where
  readings-refused_alike : (room : ℕ) → readings_refusal s room ≡ readings_refusal t room
  unfolding readings_checks
  readings-refused_alike room =
      ap₂ (λ (xs : List Check) (n : ℕ). first_refusal (xs ++ ((23, ltb room n) ∷ []))) (checked_alike e) (ap (λ (h : Header). h.n) e.header)

  readings_alike : (out : List ℤ) → readings_list s out ≡ readings_list t out
  unfolding readings_list readings_checks
  readings_alike out = by_case (le_or_lt (readings_refusal s (length out)) 0)
    where
      by_case : (readings_refusal s (length out) ≤ 0) ⊎ (0 < readings_refusal s (length out)) → readings_list s out ≡ readings_list t out
      by_case (inl l) =
          let z : readings_refusal s (length out) ≡ 0 = omega arith in
          let p = taken-passes-limits s ((23, readings_list_too_short s (length out)) ∷ []) z in
          let a : s.k ≤ all_steps = omega (arith, p.steps, last-small s.header s.scale p.scaled) in
          rw (← readings-refused_alike (length out), z, ← e.header, ← e.steps)
          (ap (λ (v : List ℤ). v ++ drop s.header.n out)
          (list_from_alike 0 s.header.n _ _ (λ i g m. reading_ext (radix s.header.code) (digits_of s.digits) (digits_of t.digits) s.k i
          (λ j o. e.digits j i (omega arith) (omega arith)))))
      by_case (inr l) =
          refused-readings s out l ∙ sym (refused-readings t out (rw (readings-refused_alike (length out)) at l))

pub readings_below : ReadingsBelow
readings_below s t e = record { refusal = readings-refused_alike e; list = readings_alike e }
