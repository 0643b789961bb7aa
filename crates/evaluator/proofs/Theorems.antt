-- The proofs of what is promised of load, advance and readings.
use mathlib.Core.Path.{◌≡◌, refl, ◌∙◌}
use mathlib.Core.Bool.{Bool, true, false, cond}
use mathlib.Core.List.{List, ◌++◌}
use Prim.Native.Nat.{ℕ, ◌-◌, ◌≤◌}
use native.Mathlib.Omega.{arith}
use lib.Dec.{eqb}
use lib.IntN.{ℤ}
use lib.ListN.{length, drop}
use lib.Seq.{take_at, drop_at}
use Rattle.integers.specs.Flat.{list_from}
use Rattle.integers.proofs.Flat.{length-list_from}
use Rattle.header.specs.Header.{header_of}
use Rattle.frame.specs.Frame.{frame_numbers, frame_checks, frame_refusal}
use Rattle.state.specs.State.{idle_state, fresh, state_last}
use Rattle.state.specs.declared.State.{State}
use Rattle.evaluator.specs.Evaluator.{loaded, smaller, advance_checks, advance_refusal, steps_made, advanced, state_reading, readings_checks, readings_refusal, readings_list}
use Rattle.stepping.specs.Steps.{steps}
use Rattle.stepping.proofs.Additions.{no_additions}
use Rattle.evaluator.proofs.Calls.{smaller-most}
use Rattle.stepping.proofs.Steps.{steps-busy, steps_k}
use Rattle.evaluator.proofs.Kept.{passes_exactly}
use Rattle.stepping.proofs.Kept.{steps_pass_limits}
use Rattle.job.proofs.Refusal.{decided, refused_gives}
use Rattle.evaluator.specs.Theorems.{LoadDecided, AdvanceDecided, ReadingsDecided, RefusedLoad, RefusedAdvance, RefusedReadings, AcceptedLoad, MadeGrows, MadeSmaller, AdvancedPasses, ReadingsFront, ReadingsPast}

-- what holds of both is so of the one chosen
in_both : {A : Type 0} (b : Bool) {x y : A} (Q : A → Type 0) → Q x → Q y → Q (cond b x y)
in_both true Q p q = p
in_both false Q p q = q

-- ---- demand 1: refused as the conditions say

pub load_decided : LoadDecided
unfolding loaded frame_checks
load_decided s = decided (frame_checks s) tt

pub advance_decided : AdvanceDecided
unfolding advanced advance_checks
advance_decided s budget = decided (advance_checks s budget) tt

pub readings_decided : ReadingsDecided
unfolding readings_checks
readings_decided s room = decided (readings_checks s room) tt

-- ---- demand 1: a refusal leaves all as it was

pub refused_load : RefusedLoad
unfolding loaded
refused_load s h = refused_gives (frame_refusal s) (fresh (header_of s) (frame_numbers s)) idle_state h

pub refused-advance : RefusedAdvance
unfolding advanced steps steps_made
refused-advance s budget h =
    let e = refused_gives (advance_refusal s budget) (smaller budget (state_last s - s.k)) 0 h in
    (rw e, e, rw e (no_additions s))

pub refused-readings : RefusedReadings
unfolding readings_list
refused-readings s out h = refused_gives (readings_refusal s (length out)) (list_from 0 s.header.n (state_reading s) ++ drop s.header.n out) out h

-- ---- demand 2: what the calls do

pub accepted_load : AcceptedLoad
unfolding loaded
accepted_load s e = rw e

pub made_grows : MadeGrows
unfolding advanced
made_grows s budget = steps_k s (steps_made s budget)

pub made-smaller : MadeSmaller
unfolding advanced steps_made
made-smaller s budget e = rw e

made-most : (s : State) (budget : ℕ) → steps_made s budget ≤ state_last s - s.k
unfolding steps_made
made-most s budget =
    in_both (eqb (advance_refusal s budget) 0) (λ j. j ≤ state_last s - s.k) (smaller-most budget (state_last s - s.k)) (omega arith)

pub advanced-passes : AdvancedPasses
unfolding advanced
advanced-passes s budget e =
    let p = (passes_exactly s).0 e in
    (passes_exactly (steps s (steps_made s budget))).1
    (steps-busy s (steps_made s budget) ∙ p.0, steps_pass_limits s (steps_made s budget) p.1 (omega (arith, made-most s budget, p.1.steps)))

-- the readings before the words that are kept
front : (s : State) → List ℤ
front s = list_from 0 s.header.n (state_reading s)

pub readings_front : ReadingsFront
unfolding readings_list front
readings_front s out e =
    rw e (take_at (front s) (drop s.header.n out) s.header.n (length-list_from 0 s.header.n (state_reading s)))

pub readings_past : ReadingsPast
unfolding readings_list front
readings_past s out =
    in_both (eqb (readings_refusal s (length out)) 0) (λ l. drop s.header.n l ≡ drop s.header.n out)
    (drop_at (front s) (drop s.header.n out) s.header.n (length-list_from 0 s.header.n (state_reading s))) refl
