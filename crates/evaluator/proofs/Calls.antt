-- What advance and readings answer, over the locals of their code: by what they are refused, and what they
-- give and leave. Cited by the proofs of `advance` and `readings`.
use mathlib.Core.Path.{◌≡◌, sym, ap, ap₂, ◌∙◌}
use mathlib.Core.Bool.{true}
use mathlib.Core.List.{List, [], ◌∷◌, ◌++◌}
use mathlib.Core.Logic.{◌⊎◌, inl, inr}
use Prim.Native.Nat.{ℕ, ◌-◌, ◌<◌, ◌≤◌}
use native.Mathlib.Omega.{arith}
use borrow.Author.Tests.{lt-ltb, le-ltb, le-leb, lt-leb, eq-eqb, ne_eqb}
use lib.Dec.{T, nleb→lt, nltb→le}
use lib.IntN.{ℤ}
use Rattle.std.specs.Prelude.{min}
use lib.ListN.{length, drop}
use Rattle.integers.specs.Flat.{list_from}
use Rattle.integers.proofs.Maximum.{le_or_lt}
use Rattle.job.specs.Header.{Limits}
use Rattle.job.specs.Rules.{ScaleLimits}
use Rattle.job.specs.Refusal.{Check, first_refusal, None, none, also}
use Rattle.job.proofs.Refusal.{numbered, accepted_exactly, refused-before, accepted-before}
use Rattle.job.specs.Refused.{number_of}
use Rattle.job.specs.declared.refusals.Refused.{Refused}
use Rattle.job.proofs.Numbers.{number_positive}
use Rattle.state.specs.State.{PassesLimits, state_checks, state_last}
use Rattle.state.specs.declared.State.{State}
use Rattle.evaluator.specs.Evaluator.{no_budget, all_made, smaller, advance_checks, advance_refusal, steps_made, advanced, state_reading, readings_list_too_short, readings_checks, readings_refusal, readings_list}
use Rattle.stepping.specs.Steps.{steps, steps_additions}
use Rattle.stepping.proofs.Additions.{no_additions}
use Rattle.evaluator.proofs.Kept.{passes_exactly}

-- ---- checks after the state's: refused by its number, or not

pub refused_first : (xs ys : List Check) (bad : ℕ) → 0 < bad → bad ≡ first_refusal xs → bad ≡ first_refusal (xs ++ ys)
refused_first xs ys bad l e = sym (refused-before xs ys bad l (sym e))

pub accepted_first : (xs ys : List Check) (c : ℕ) → T (numbered xs) → 0 ≡ first_refusal xs → c ≡ first_refusal ys → c ≡ first_refusal (xs ++ ys)
accepted_first xs ys c t e f = f ∙ sym (accepted-before xs ys t (sym e))

-- ---- advance

pub smaller-min : (a b : ℕ) → min a b ≡ smaller a b
smaller-min a b = by_order (le_or_lt a b)
  where
    by_order : (a ≤ b) ⊎ (b < a) → min a b ≡ smaller a b
    by_order (inl l) = rw (le-leb a b l) (omega arith)
    by_order (inr l) = rw (lt-leb a b l) (omega arith)

pub smaller-most : (a b : ℕ) → smaller a b ≤ b
smaller-most a b = by_order (le_or_lt a b)
  where
    by_order : (a ≤ b) ⊎ (b < a) → smaller a b ≤ b
    by_order (inl l) = rw (le-leb a b l) l
    by_order (inr l) = rw (lt-leb a b l) (omega arith)

-- a state that has no number is within the limits of its header and its scale
pub unrefused_limits : (s : State) → 0 ≡ first_refusal (state_checks s) → Limits s.header × ScaleLimits s.header s.scale
unrefused_limits s e = let p = ((passes_exactly s).0 (sym e)).1 in (p.limits, p.scaled)

module _ (s : State) (budget : ℕ) where
  -- refused by the state's number, by 22 or by 21, or not
  pub state_decides : (e : Refused) → number_of e ≡ first_refusal (state_checks s) → number_of e ≡ advance_refusal s budget
  unfolding advance_checks
  state_decides e n = refused_first (state_checks s) ((22, no_budget budget) ∷ (21, all_made s) ∷ []) (number_of e) (number_positive e) n

  module _ (p : 0 ≡ first_refusal (state_checks s)) where
    rest_decides : (c : ℕ) → c ≡ first_refusal ((22, no_budget budget) ∷ (21, all_made s) ∷ []) → c ≡ advance_refusal s budget
    unfolding advance_checks
    rest_decides c f = accepted_first (state_checks s) ((22, no_budget budget) ∷ (21, all_made s) ∷ []) c tt p f

    pub budget_decides : budget ≡ 0 → 22 ≡ advance_refusal s budget
    budget_decides z = rest_decides 22 (rw (eq-eqb budget 0 z))

    module _ (z : budget ≡ 0 → ⊥) {last : ℕ} (end : last ≡ state_last s) where
      pub last_decides : last ≤ s.k → 21 ≡ advance_refusal s budget
      last_decides l = rest_decides 21 (rw (ne_eqb budget 0 z, le-leb (state_last s) s.k (rw end at l)))

      pub none_decides : s.k < last → 0 ≡ advance_refusal s budget
      none_decides l = rest_decides 0 (rw (ne_eqb budget 0 z, lt-leb (state_last s) s.k (rw end at l)))

  pub advance_refuses : (e : Refused) → number_of e ≡ advance_refusal s budget
      → record { refusal = number_of e; made = 0; additions = 0; state = s } ≡ advanced s budget
  unfolding advanced steps_made steps
  advance_refuses e n =
      rw (← n, ne_eqb (number_of e) 0 (λ z. omega (arith, number_positive e)))
      (ap (λ (a : ℕ). record { refusal = number_of e; made = 0; additions = a; state = s }) (sym (no_additions s)))

  module _ (n : 0 ≡ advance_refusal s budget) where
    pub advance_makes : (last made a : ℕ) (t : State) → last ≡ state_last s → made ≡ smaller budget (last - s.k) → a ≡ steps_additions s made → t ≡ steps s made
        → record { refusal = 0; made = made; additions = a; state = t } ≡ advanced s budget
    unfolding advanced steps_made
    advance_makes last made a t end em ea et =
        rw (← n, ← (rw end at em)) (ap₂ (λ (a : ℕ) (t : State). record { refusal = 0; made = made; additions = a; state = t }) ea et)

    -- where nothing is refused the state is busy and passes its limits, and steps are left
    pub advance_takes : (s.busy ≡ true) × PassesLimits s × (s.k < state_last s)
    unfolding advance_checks
    advance_takes = takes ((accepted_exactly (advance_checks s budget) tt).0 (sym n))
      where
        takes : None (advance_checks s budget) → (s.busy ≡ true) × PassesLimits s × (s.k < state_last s)
        takes (also idle (also broken (also none_left (also made none)))) =
            let p = (passes_exactly s).0 ((accepted_exactly (state_checks s) tt).1 (also idle (also broken none))) in
            (p.0, p.1, nleb→lt (state_last s) s.k made)

-- ---- readings

-- refused by the state's number, or by 23, or not
module _ (s : State) (room : ℕ) where
  pub reads_state_decides : (e : Refused) → number_of e ≡ first_refusal (state_checks s) → number_of e ≡ readings_refusal s room
  unfolding readings_checks
  reads_state_decides e n = refused_first (state_checks s) ((23, readings_list_too_short s room) ∷ []) (number_of e) (number_positive e) n

  module _ (p : 0 ≡ first_refusal (state_checks s)) where
    pub room_decides : room < s.header.n → 23 ≡ readings_refusal s room
    unfolding readings_checks
    room_decides l = accepted_first (state_checks s) ((23, readings_list_too_short s room) ∷ []) 23 tt p (rw (lt-ltb room s.header.n l))

    pub reads_none_decides : s.header.n ≤ room → 0 ≡ readings_refusal s room
    unfolding readings_checks
    reads_none_decides l = accepted_first (state_checks s) ((23, readings_list_too_short s room) ∷ []) 0 tt p (rw (le-ltb room s.header.n l))

module _ (s : State) (out : List ℤ) where
  pub readings_refuses : (e : Refused) → number_of e ≡ readings_refusal s (length out) → out ≡ readings_list s out
  unfolding readings_list
  readings_refuses e n = rw (← n, ne_eqb (number_of e) 0 (λ z. omega (arith, number_positive e)))

  module _ (n : 0 ≡ readings_refusal s (length out)) where
    pub readings_writes : (o : List ℤ) → o ≡ list_from 0 s.header.n (state_reading s) ++ drop s.header.n out → o ≡ readings_list s out
    unfolding readings_list
    readings_writes o e = e ∙ rw (← n)

    -- where nothing is refused the state passes its limits, and the list has a word for every row
    pub readings_takes : PassesLimits s × (s.header.n ≤ length out)
    unfolding readings_checks
    readings_takes = takes ((accepted_exactly (readings_checks s (length out)) tt).0 (sym n))
      where
        takes : None (readings_checks s (length out)) → PassesLimits s × (s.header.n ≤ length out)
        takes (also idle (also broken (also short none))) =
            (((passes_exactly s).0 ((accepted_exactly (state_checks s) tt).1 (also idle (also broken none)))).1, nltb→le (length out) s.header.n short)
