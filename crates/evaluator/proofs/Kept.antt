-- Exactly a job that passes its limits passes 20 and 24, and every state that a load and steps make does.
-- Cited by the proofs of `advance` and `readings`, and by the claims about whole jobs.
use mathlib.Core.Path.{◌≡◌, refl, ◌∙◌}
use mathlib.Core.Bool.{Bool, true, false, not, cond}
use mathlib.Core.List.{List}
use mathlib.Core.Logic.{◌↔◌}
use Prim.Native.Nat.{ℕ}
use native.Mathlib.Omega.{arith}
use lib.IntN.{ℤ}
use Rattle.job.specs.Refusal.{first_refusal}
use Rattle.job.specs.declared.Header.{Header}
use Rattle.state.specs.State.{PassesLimits, fresh, breaks_limit, state_checks}
use Rattle.state.specs.declared.State.{State}
use Rattle.state.proofs.PassesLimits.{passes-limits, fresh-passes}
use Rattle.header.specs.Header.{header_of}
use Rattle.frame.specs.Frame.{frame_numbers, frame_refusal}
use Rattle.frame.proofs.Valid.{accepted-frame}
use Rattle.frame.proofs.Theorems.{frame-scale}
use Rattle.scale.specs.Scale.{job_scale}
use Rattle.stepping.specs.Steps.{steps}
use Rattle.stepping.proofs.Steps.{steps-busy}
use Rattle.stepping.proofs.Kept.{steps_pass_limits}
use Rattle.evaluator.specs.Theorems.{LoadedPasses}

-- ---- passing 20 and 24

abbrev of_tests : Bool → Bool → ℕ
of_tests busy broken = cond (not busy) 20 (cond broken 24 0)

passes_both : (busy broken : Bool) → (of_tests busy broken ≡ 0) ↔ ((busy ≡ true) × (broken ≡ false))
passes_both busy broken = (to busy broken, λ e. rw (e.0, e.1))
  where
    to : (busy broken : Bool) → of_tests busy broken ≡ 0 → (busy ≡ true) × (broken ≡ false)
    to true false e = (refl, refl)
    to true true e = absurd (omega arith)
    to false broken e = absurd (omega arith)

-- exactly a job that passes its limits passes both
pub passes_exactly : (s : State) → (first_refusal (state_checks s) ≡ 0) ↔ ((s.busy ≡ true) × PassesLimits s)
passes_exactly s =
    let t = passes_both s.busy (breaks_limit s) in
    ((λ e. ((t.0 e).0, (passes-limits s).0 (t.0 e).1)), (λ p. t.1 (p.0, (passes-limits s).1 p.1)))

-- ---- a loaded job

pub fresh_start : (h : Header) (v : List ℤ)
    → ((fresh h v).busy ≡ true) × ((fresh h v).k ≡ 0) × ((fresh h v).header ≡ h) × ((fresh h v).scale ≡ job_scale h v)
unfolding fresh
fresh_start h v = (refl, refl, refl, refl)

pub loaded-passes-limits : (s : List ℕ) → frame_refusal s ≡ 0 → PassesLimits (fresh (header_of s) (frame_numbers s))
loaded-passes-limits s e =
    let v = ((accepted-frame s).0 e).valid in
    let x = frame-scale s e in
    fresh-passes (header_of s) (frame_numbers s) v.limits x.limits v.light x.smallest.fit

pub loaded-passes : LoadedPasses
loaded-passes s e j l =
    let t = fresh (header_of s) (frame_numbers s) in
    let f = fresh_start (header_of s) (frame_numbers s) in
    (passes_exactly (steps t j)).1
    (steps-busy t j ∙ f.0, steps_pass_limits t j (loaded-passes-limits s e) (omega (arith, f.1)))
