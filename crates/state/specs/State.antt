-- The state (document 01, "Calls" and "Refused because of the state"): its digits, what the idle state and a
-- fresh job are, the conditions of refusals 20 and 24, also as facts, and when two states agree below the
-- order. Cited by every call that takes a state.
use mathlib.Core.{Bool.Bool, Bool.true, Bool.false, Bool.not, Bool.◌||◌, List.List, List.[], List.◌∷◌, Path.◌≡◌, Logic.◌↔◌}
use Rattle.std.specs.Prelude.{ℕ, zero, suc, ◌-◌, ◌*◌, ◌<◌, ◌≤◌}
use lib.{Dec.ltb, IntN.ℤ, IntN.pos, IntN.nat_abs, ListN.replicate}
use Rattle.integers.specs.{Flat.at, Flat.entry, Flat.flat_vector, Flat.flat_matrix, Sum.weight}
use Rattle.job.specs.{Header.header_checks, Header.zero_header, Header.Limits, Refusal.Check, Refusal.first_refusal, Rules.last_step, Rules.scale_out_of_range, Rules.ScaleLimits, Rules.inner_unit, Rules.bound_over, Rules.bound_under, declared.Header.Header}
use Rattle.system.specs.{Rows.first_row, Rows.heavy_row, Rows.large_residual, Rows.light_enough, System.matrix_of, System.right_side_of}
use Rattle.scale.specs.Scale.{job_scale}
use Rattle.state.specs.declared.State.{State}

-- the last step of a state's job, and the unit of its residuals
abbrev pub state_last : State → ℕ
state_last s = last_step s.header s.scale

abbrev pub state_unit : State → ℕ
state_unit s = inner_unit s.header s.scale

-- ---- the digits of all steps in one array: step j, from 1, of row i at 16 (j - 1) + i

-- how many steps there is room for, and how many digits: 16 rows a step
abbrev pub all_steps : ℕ
all_steps = 60

abbrev pub digit_places : ℕ
digit_places = 960

-- the digit of step j and row i; before the first step the digits are 0
abbrev pub digits_of : List ℤ → ℕ → ℕ → ℤ
digits_of ds zero i = pos 0
digits_of ds (suc j) i = entry ds j i

-- some row below n of step j + 1 has a digit whose magnitude is above the bound
abbrev pub row_beyond : (n bound : ℕ) (ds : List ℤ) (j : ℕ) → Bool
row_beyond n bound ds j = ltb 0 (first_row n (λ i. ltb bound (nat_abs (entry ds j i))))

-- one of the c steps after the first j has
unfoldable pub beyond : (n bound : ℕ) (ds : List ℤ) (j c : ℕ) → Bool
beyond n bound ds j zero = false
beyond n bound ds j (suc c) = row_beyond n bound ds j || beyond n bound ds (suc j) c

-- a digit beyond p in the first k steps
abbrev pub digit_beyond : (h : Header) (k : ℕ) (ds : List ℤ) → Bool
digit_beyond h k ds = beyond h.n h.p ds 0 k

-- ---- the states that a load gives

-- every number 0
unfoldable pub idle_state : State
idle_state =
    record {
      busy = false;
      header = zero_header;
      scale = 0;
      k = 0;
      g = replicate 256 (pos 0);
      z = replicate 16 (pos 0);
      digits = replicate digit_places (pos 0);
    }

-- The job with the header h and the numbers v, with 0 steps made: its scale is s, z is b divided by r^s, the
-- digits are all 0, and past the order n there are zeros. z is in units of 1 / (2^f × r^s), in which the
-- divided b is the number sent.
unfoldable pub fresh : Header → List ℤ → State
fresh h v =
    record {
      busy = true;
      header = h;
      scale = job_scale h v;
      k = 0;
      g = flat_matrix h.n (matrix_of h v);
      z = flat_vector h.n (right_side_of h v);
      digits = replicate digit_places (pos 0);
    }

-- ---- 24: the state's numbers break a limit

-- a header field out of its limits
abbrev pub header_broken : State → Bool
header_broken s = ltb 0 (first_refusal (header_checks s.header))

-- the scale above its limit, or the last step above 15's
abbrev pub scale_broken : State → Bool
scale_broken s = scale_out_of_range s.header s.scale

-- k above the last step
abbrev pub steps_broken : State → Bool
steps_broken s = ltb (state_last s) s.k

-- a heavy row
abbrev pub row_broken : State → Bool
row_broken s = ltb 0 (heavy_row s.header (entry s.g))

-- |z| above its bound of 17/32
abbrev pub residual_broken : State → Bool
residual_broken s = ltb 0 (large_residual s.header s.scale (at s.z))

-- a digit other than 0 after the k-th step
abbrev pub later_digit : State → Bool
later_digit s = beyond s.header.n 0 s.digits s.k (all_steps - s.k)

unfoldable pub breaks_limit : State → Bool
breaks_limit s =
    header_broken s || (scale_broken s || (steps_broken s || (row_broken s || (residual_broken s
    || (digit_beyond s.header s.k s.digits || later_digit s)))))

-- ---- 20, 24, which every call looks at first

abbrev pub idle : State → Bool
idle s = not s.busy

abbrev pub state_checks : State → List Check
state_checks s = (20, idle s) ∷ (24, breaks_limit s) ∷ []

-- ---- what 24 asks, as facts on a state's numbers

pub record PassesLimits (s : State) : Type 0 where
  -- the header's fields and the scale are within their limits, and k is at most the last step
  pub limits : Limits s.header
  pub scaled : ScaleLimits s.header s.scale
  pub steps : s.k ≤ state_last s
  -- every row is light enough, and every residual within its bound
  pub light : (i : ℕ) → i < s.header.n → light_enough s.header (weight s.header.n (entry s.g i)) ≡ true
  pub small : (i : ℕ) → i < s.header.n → bound_under * nat_abs (at s.z i) ≤ bound_over * state_unit s
  -- the digits of the first k steps are within p, and those after them are 0
  pub made : (t i : ℕ) → t < s.k → i < s.header.n → nat_abs (entry s.digits t i) ≤ s.header.p
  pub later : (t i : ℕ) → s.k ≤ t → t < all_steps → i < s.header.n → entry s.digits t i ≡ pos 0

-- They are just what refusal 24 lets through. Proved in proofs/PassesLimits.antt, as `passes-limits`.
abbrev pub PassesExactly : Type 0
PassesExactly = (s : State) → (breaks_limit s ≡ false) ↔ PassesLimits s

-- ---- two states that agree below the order

-- Whether there is a job, the header, the scale and the steps made are the same, and so are G's entries in
-- rows and columns below the order, the residuals of the rows below it, and these rows' digits at each step
-- that there is room for. Of the other entries nothing is said.
pub record SameBelow (s t : State) : Type 0 where
  pub busy : s.busy ≡ t.busy
  pub header : s.header ≡ t.header
  pub scale : s.scale ≡ t.scale
  pub steps : s.k ≡ t.k
  pub matrix : (i j : ℕ) → i < s.header.n → j < s.header.n → entry s.g i j ≡ entry t.g i j
  pub residuals : (i : ℕ) → i < s.header.n → at s.z i ≡ at t.z i
  pub digits : (j i : ℕ) → j < all_steps → i < s.header.n → entry s.digits j i ≡ entry t.digits j i
