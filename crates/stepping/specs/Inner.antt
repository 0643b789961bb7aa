-- What the contracts of inner functions cite; a reader of the promises can skip it: what a step asks, and
-- what it leaves.
use mathlib.Core.{Path.◌≡◌, List.List}
use Rattle.std.specs.Prelude.{ℕ, true, ◌+◌, ◌*◌, ◌≤◌}
use lib.{IntN.ℤ, IntN.pos, ListN.length, ListN.replicate}
use Rattle.state.specs.{declared.State.State, State.PassesLimits, State.state_last, State.all_steps}
use Rattle.state.specs.Inner.{state_of}
use Rattle.spans.specs.Inner.{Summed}
use Rattle.stepping.specs.declared.plan.Plan.{Plan}
use Rattle.stepping.specs.Steps.{last_digits, chosen_digits, one_step}

-- before the first step, after 0 steps, every digit is 0
abbrev pub FirstZero : (k : ℕ) (d : List ℤ) → Type 0
FirstZero k d = k ≡ 0 → d ≡ replicate 16 (pos 0)

-- the state of a job's parts, which are lent one by one
abbrev pub state_at : (plan : Plan) (k : ℕ) (g z digits : List ℤ) → State
state_at plan k g z digits = state_of true plan.header plan.scale k g z digits

-- so many steps may be made of s: it passes 24, its array of digits has a place for each of 60 steps, and
-- the steps are left
pub record MayStep (s : State) (made : ℕ) : Type 0 where
  pub passes : PassesLimits s
  pub room : length s.digits ≡ 16 * all_steps
  pub left : s.k + made ≤ state_last s

-- between two steps of s: the digits of the step before, and the rows' sums with them
pub record Between (s : State) (before sums : List ℤ) : Type 0 where
  pub last : before ≡ last_digits s
  pub summed : Summed s.header.n s.g before sums

-- what a step asks: s has a step left
pub record MayStepOnce (s : State) (before sums : List ℤ) : Type 0 where
  pub may : MayStep s 1
  pub between : Between s before sums

-- what it leaves: the residuals z and the digits ds of the state a step further, the vector chosen, and the
-- rows' sums with it
pub record Stepped (s : State) (z ds chosen sums : List ℤ) : Type 0 where
  pub residuals : z ≡ (one_step s).z
  pub digits : ds ≡ (one_step s).digits
  pub newest : chosen ≡ chosen_digits s
  pub summed : Summed s.header.n s.g chosen sums
