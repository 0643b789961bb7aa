-- The additions that an advance answers, in the digits that the state comes back with.
use mathlib.Core.Path.{◌≡◌}
use mathlib.Core.List.{[], ◌∷◌}
use mathlib.Core.Logic.{◌⊎◌, inl, inr}
use Prim.Native.Nat.{ℕ, ◌+◌, ◌<◌, ◌≤◌}
use native.Mathlib.Omega.{arith}
use Rattle.integers.specs.Flat.{entry}
use Rattle.integers.proofs.Maximum.{le_or_lt}
use Rattle.additions.specs.Additions.{additions}
use Rattle.state.specs.State.{digits_of}
use Rattle.state.specs.declared.State.{State}
use Rattle.stepping.specs.Steps.{steps, steps_additions}
use Rattle.stepping.proofs.Steps.{steps_k}
use Rattle.stepping.proofs.Additions as stepping
use Rattle.evaluator.specs.Evaluator.{no_budget, all_made, advance_checks, advance_refusal, steps_made, advanced}
use Rattle.evaluator.specs.Theorems.{AdditionsGrow}
use Rattle.evaluator.proofs.PastOrder.{taken-passes-limits}
use Rattle.evaluator.proofs.Theorems.{refused-advance}

-- by so much they grow in m steps
abbrev Grow : (s : State) (m : ℕ) → Type 0
Grow s m = let all = additions s.header.n (entry s.g) (digits_of (steps s m).digits) in all (s.k + m) ≡ all s.k + steps_additions s m

-- in none of none
grow_none : (s : State) → Grow s 0
grow_none s = let e : s.k + 0 ≡ s.k = omega arith in rw e (omega (arith, stepping.no_additions s))

pub additions_grow : AdditionsGrow
unfolding advanced advance_checks
additions_grow s budget = rw (steps_k s (steps_made s budget)) (by_case (le_or_lt (advance_refusal s budget) 0))
  where
    by_case : (advance_refusal s budget ≤ 0) ⊎ (0 < advance_refusal s budget) → Grow s (steps_made s budget)
    by_case (inl l) =
        let p = taken-passes-limits s ((22, no_budget budget) ∷ (21, all_made s) ∷ []) (omega arith) in
        stepping.additions_grow s (steps_made s budget) p.limits.order_most
    by_case (inr l) = rw (refused-advance s budget l).1 (grow_none s)
