-- Lists of calls from a fresh job are steps of it: as many as the smaller of the last step and the sum of
-- the budgets, with the additions of these steps. Cited by `Demand3` and `Promised`, and by the proof of
-- `steps_allowed`.
use mathlib.Core.Path.{◌≡◌, refl, sym, ap₂, ◌∙◌}
use mathlib.Core.Bool.{cond}
use mathlib.Core.List.{List, [], ◌∷◌, ◌++◌}
use mathlib.Core.Logic.{◌⊎◌, inl, inr}
use Prim.Native.Nat.{ℕ, zero, suc, ◌+◌, ◌-◌, ◌<◌, ◌≤◌}
use native.Mathlib.Omega.{arith}
use borrow.Author.Tests.{le-leb, lt-leb}
use lib.Dec.{leb, eqb, eqb-suc-zero}
use lib.ListN.{length, take, get_or}
use lib.Seq.{take-suc}
use native.Mathlib.Numerals.{add-one}
use Rattle.integers.proofs.Maximum.{le_or_lt}
use Rattle.job.specs.Rules.{last_step}
use Rattle.job.specs.Refusal.{first_refusal}
use Rattle.job.proofs.Refusal.{accepted-before}
use Rattle.state.specs.State.{state_checks, state_last}
use Rattle.state.specs.declared.State.{State}
use Rattle.stepping.specs.Steps.{steps, steps_additions}
use Rattle.evaluator.specs.Evaluator.{smaller, advanced, advance_checks, steps_made}
use Rattle.stepping.proofs.Steps.{steps-header, steps-scale, steps_k, steps-add}
use Rattle.stepping.proofs.Additions.{no_additions, additions-add}
use Rattle.accuracy.specs.Accuracy.{Call, advance, readings, run, budgets, calls_additions, advances}

-- ---- the smaller of two numbers

pub smaller-left : (a b : ℕ) → a ≤ b → smaller a b ≡ a
smaller-left a b h = rw (le-leb a b h)

pub smaller_right : (a b : ℕ) → b ≤ a → smaller a b ≡ b
smaller_right a b h = by_case (le_or_lt a b)
  where
    by_case : (a ≤ b) ⊎ (b < a) → smaller a b ≡ b
    by_case (inl l) = let e : a ≡ b = omega arith in smaller-left a b l ∙ e
    by_case (inr l) = rw (lt-leb a b l)

pub smaller-within : (a b : ℕ) → smaller a b ≤ a
smaller-within a b = by_case (le_or_lt a b)
  where
    by_case : (a ≤ b) ⊎ (b < a) → smaller a b ≤ a
    by_case (inl l) = omega (arith, smaller-left a b l)
    by_case (inr l) = omega (arith, smaller_right a b (omega arith))

-- a cap that is reached stays
pub smaller_again : (a b c : ℕ) → smaller a (smaller a b + c) ≡ smaller a (b + c)
smaller_again a b c = by_case (le_or_lt a b)
  where
    by_case : (a ≤ b) ⊎ (b < a) → smaller a (smaller a b + c) ≡ smaller a (b + c)
    by_case (inl l) = rw (smaller-left a b l) (smaller-left a (a + c) (omega arith) ∙ sym (smaller-left a (b + c) (omega arith)))
    by_case (inr l) = rw (smaller_right a b (omega arith))

-- what is left of a cap
smaller-rest : (a b j : ℕ) → j ≤ a → j + smaller b (a - j) ≡ smaller a (j + b)
smaller-rest a b j h = by_case (le_or_lt b (a - j))
  where
    by_case : (b ≤ a - j) ⊎ (a - j < b) → j + smaller b (a - j) ≡ smaller a (j + b)
    by_case (inl l) = rw (smaller-left b (a - j) l) (sym (smaller_right a (j + b) (omega arith)))
    by_case (inr l) = rw (smaller_right b (a - j) (omega arith)) (let e : j + (a - j) ≡ a = omega arith in e ∙ sym (smaller-left a (j + b) (omega arith)))

-- ---- one advance of a state that passes 20 and 24

module _ (s : State) (passes : first_refusal (state_checks s) ≡ 0) (room : s.k ≤ state_last s) where
  -- the growth of k: up to the last step
  pub made_is : (budget : ℕ) → s.k + steps_made s budget ≡ smaller (state_last s) (s.k + budget)
  unfolding steps_made advance_checks
  made_is zero =
      rw (accepted-before (state_checks s) _ tt passes)
      (let e : s.k + 0 ≡ s.k = omega arith in rw e (sym (smaller_right (state_last s) s.k room)))
  made_is (suc b) = rw (accepted-before (state_checks s) _ tt passes, eqb-suc-zero b) (by_case (le_or_lt (state_last s) s.k))
    where
      by_case : (state_last s ≤ s.k) ⊎ (s.k < state_last s) → s.k + cond (eqb (cond (leb (state_last s) s.k) 21 0) 0) (smaller (suc b) (state_last s - s.k)) 0 ≡ smaller (state_last s) (s.k + suc b)
      by_case (inl l) =
          rw (le-leb (state_last s) s.k l)
          (let e : s.k + 0 ≡ state_last s = omega arith in e ∙ sym (smaller-left (state_last s) (s.k + suc b) (omega arith)))
      by_case (inr l) = rw (lt-leb (state_last s) s.k l) (smaller-rest (state_last s) (suc b) s.k room)

made_from : (t : State) (j l budget : ℕ) → t.k ≡ j → state_last t ≡ l → first_refusal (state_checks t) ≡ 0 → j ≤ l → j + steps_made t budget ≡ smaller l (j + budget)
made_from t j l budget e f passes h = rw (← e, ← f) (made_is t passes (rw (e, f) h) budget)

-- ---- every list of calls

module _ (s : State) (start : s.k ≡ 0) (passes : (j : ℕ) → j ≤ state_last s → first_refusal (state_checks (steps s j)) ≡ 0) where
  made : (j : ℕ) → (steps s j).k ≡ j
  made j = omega (arith, steps_k s j)

  made_to : (j budget : ℕ) → j ≤ state_last s → j + steps_made (steps s j) budget ≡ smaller (state_last s) (j + budget)
  made_to j budget h =
      made_from (steps s j) j (state_last s) budget (made j) (ap₂ last_step (steps-header s j) (steps-scale s j)) (passes j h) h

  -- an advance of the state after j steps: the state that it gives, and the additions that it counts
  advance_is : (j budget : ℕ) → j ≤ state_last s → (advanced (steps s j) budget).state ≡ steps s (smaller (state_last s) (j + budget))
  unfolding advanced
  advance_is j budget h = sym (steps-add s j (steps_made (steps s j) budget)) ∙ rw (made_to j budget h)

  advance_counts : (j budget : ℕ) → j ≤ state_last s
      → steps_additions s j + (advanced (steps s j) budget).additions ≡ steps_additions s (smaller (state_last s) (j + budget))
  unfolding advanced
  advance_counts j budget h = sym (additions-add s j (steps_made (steps s j) budget)) ∙ rw (made_to j budget h)

  run_is : (j : ℕ) (calls : List Call) → j ≤ state_last s → run (steps s j) calls ≡ steps s (smaller (state_last s) (j + budgets calls))
  unfolding run budgets
  run_is j [] h = let e : j + 0 ≡ j = omega arith in rw (e, smaller_right (state_last s) j h)
  run_is j (advance budget ∷ calls) h =
      let e : j + (budget + budgets calls) ≡ j + budget + budgets calls = omega arith in
      rw (advance_is j budget h, e, ← smaller_again (state_last s) (j + budget) (budgets calls))
      (run_is (smaller (state_last s) (j + budget)) calls (smaller-within (state_last s) (j + budget)))
  run_is j (readings out ∷ calls) h = run_is j calls h

  counted_is : (j : ℕ) (calls : List Call) → j ≤ state_last s
      → steps_additions s j + calls_additions (steps s j) calls ≡ steps_additions s (smaller (state_last s) (j + budgets calls))
  unfolding calls_additions budgets
  counted_is j [] h = let e : j + 0 ≡ j = omega arith in rw (e, smaller_right (state_last s) j h) (omega arith)
  counted_is j (advance budget ∷ calls) h =
      let e : j + (budget + budgets calls) ≡ j + budget + budgets calls = omega arith in
      rw (advance_is j budget h, e, ← smaller_again (state_last s) (j + budget) (budgets calls))
      (omega (arith, advance_counts j budget h, counted_is (smaller (state_last s) (j + budget)) calls (smaller-within (state_last s) (j + budget))))
  counted_is j (readings out ∷ calls) h = omega (arith, counted_is j calls h)

  -- from the start
  pub run_all : (calls : List Call) → run s calls ≡ steps s (smaller (state_last s) (budgets calls))
  unfolding steps
  run_all calls = let e : 0 + budgets calls ≡ budgets calls = omega arith in rw (← e) (run_is 0 calls (omega arith))

  pub counted_all : (calls : List Call) → calls_additions s calls ≡ steps_additions s (smaller (state_last s) (budgets calls))
  unfolding steps
  counted_all calls =
      let e : 0 + budgets calls ≡ budgets calls = omega arith in
      rw (← e) (omega (arith, no_additions s, counted_is 0 calls (omega arith)))

-- ---- a loop over budgets

budgets-append : (xs ys : List Call) → budgets (xs ++ ys) ≡ budgets xs + budgets ys
unfolding budgets
budgets-append [] ys = omega arith
budgets-append (advance b ∷ xs) ys = omega (arith, budgets-append xs ys)
budgets-append (readings out ∷ xs) ys = budgets-append xs ys

advances_snoc : (xs : List ℕ) (b : ℕ) → advances (xs ++ (b ∷ [])) ≡ advances xs ++ (advance b ∷ [])
advances_snoc [] b = refl
advances_snoc (x ∷ xs) b = rw (advances_snoc xs b)

budgets-more : (list : List ℕ) (i : ℕ) → i < length list → budgets (advances (take (i + 1) list)) ≡ budgets (advances (take i list)) + get_or list i 0
unfolding budgets
budgets-more list i h =
    let e : get_or list i 0 + 0 ≡ get_or list i 0 = omega arith in
    rw (add-one, take-suc list i 0 h, advances_snoc (take i list) (get_or list i 0))
    (budgets-append (advances (take i list)) (advance (get_or list i 0) ∷ []) ∙ rw e refl)

-- the steps that the first i budgets allow, and those of one more
pub allowed_none : (last : ℕ) (list : List ℕ) → 0 ≡ smaller last (budgets (advances (take 0 list)))
unfolding budgets
allowed_none last list = sym (smaller_right last 0 (omega arith))

pub allowed_most : (last made S : ℕ) → made ≡ smaller last S → made ≤ last
allowed_most last made S e = omega (arith, e, smaller-within last S)

pub allowed_more : (last made x : ℕ) (list : List ℕ) (i : ℕ) → i < length list → made ≡ smaller last (budgets (advances (take i list)))
    → x ≡ smaller (get_or list i 0) (last - made) → made + x ≡ smaller last (budgets (advances (take (i + 1) list)))
allowed_more last made x list i h e f =
    let S = budgets (advances (take i list)) in
    rw (f, budgets-more list i h)
    (smaller-rest last (get_or list i 0) made (allowed_most last made S e) ∙ rw e (smaller_again last S (get_or list i 0)))
