-- Refusals 20 and 24 computed on a job with one digit stored: the idle state is refused by 20, a wrong digit
-- by 24. And a job whose scale is 1, as it starts, with its steps made, and with residuals at their bound.
use mathlib.Core.Path.{◌≡◌, refl}
use mathlib.Core.Bool.{true}
use mathlib.Core.List.{[], ◌∷◌}
use Prim.Native.Nat.{ℕ}
use lib.IntN.{ℤ, pos, negsuc}
use lib.ListN.{replicate, set}
use Rattle.integers.specs.Flat.{at, list_from}
use Rattle.integers.specs.Sum.{weight, total}
use Rattle.job.specs.Refusal.{first_refusal}
use Rattle.system.specs.Rows.{first_row_from}
use Rattle.system.specs.System.{matrix, curve_entry, right_side}
use Rattle.scale.specs.Scale.{every}
use Rattle.state.specs.State.{digit_places, beyond, idle_state, fresh, breaks_limit, state_checks}
use Rattle.state.specs.Inner.{state_of}
use Rattle.state.specs.declared.State.{State}

-- case A with an x of 3: polynomial, r 2, p 1, f 4, n 2, m 4; x 3, p_0 3 and p_1 8
abbrev example : State
example = fresh (record { kind = 0; code = 0; p = 1; f = 4; n = 2; m = 4 }) (pos 3 ∷ pos 3 ∷ pos 8 ∷ [])

abbrev refusal_of : State → ℕ
refusal_of s = first_refusal (state_checks s)

idle-refused : refusal_of idle_state ≡ 20
unfolding idle_state
idle-refused = refl

-- after k steps, with the digit x at place i of the array and every other digit 0
abbrev with_digit : ℕ → ℕ → ℤ → State
with_digit k i x =
    state_of true example.header 0 k example.g example.z (set (replicate digit_places (pos 0)) i x)

-- in step 1, -1 passes once the step is made and not before it, -2 is beyond p, and a row past the order is
-- not looked at
digit-refused : (refusal_of (with_digit 1 0 (negsuc 0)) ≡ 0)
    × (refusal_of (with_digit 0 0 (negsuc 0)) ≡ 24)
    × (refusal_of (with_digit 1 0 (negsuc 1)) ≡ 24)
    × (refusal_of (with_digit 1 2 (negsuc 1)) ≡ 0)
unfolding breaks_limit fresh beyond first_row_from weight total list_from matrix curve_entry right_side
digit-refused = (refl, refl, refl, refl)

-- the same with p_0 9, as in document 01's case E: its scale is 1, its z is the numbers sent, and six steps
-- may be made of it, and no more
abbrev high : State
high = fresh (record { kind = 0; code = 0; p = 1; f = 4; n = 2; m = 4 }) (pos 3 ∷ pos 9 ∷ pos 8 ∷ [])

abbrev after : (scale k : ℕ) → State
after scale k = state_of true high.header scale k high.g high.z (replicate digit_places (pos 0))

starts_high : (high.scale ≡ 1) × (at high.z 0 ≡ pos 9) × (refusal_of (after 1 6) ≡ 0) × (refusal_of (after 1 7) ≡ 24)
    × (refusal_of (after 0 0) ≡ 24) × (refusal_of (after 3 0) ≡ 24)
unfolding breaks_limit fresh beyond first_row_from every weight total list_from matrix curve_entry right_side
starts_high = (refl, refl, refl, refl, refl, refl)

-- with a scale of 1 the unit is 32: a residual of 17 is just within its bound, and -18 is beyond it
abbrev with_residual : ℤ → State
with_residual x = state_of true high.header 1 0 high.g (set high.z 1 x) (replicate digit_places (pos 0))

residual-refused : (refusal_of (with_residual (pos 17)) ≡ 0) × (refusal_of (with_residual (negsuc 17)) ≡ 24)
unfolding breaks_limit fresh beyond first_row_from weight total list_from matrix curve_entry right_side
residual-refused = (refl, refl)
