-- One step, and a loop over steps: what a step's calls ask and leave, the arrays after j steps of a state,
-- and one turn of the loop. Cited by the proofs of the two forms' `step`, of `run` and
-- of `advance`.
use mathlib.Core.Path.{◌≡◌, refl, sym, ◌∙◌}
use mathlib.Core.List.{List}
use mathlib.Core.Logic.{◌⊎◌, inl, inr}
use mathlib.Core.Bool.{Bool, true, cond}
use Prim.Native.Nat.{ℕ, zero, suc, ◌+◌, ◌*◌, ◌^◌, ◌<◌, ◌≤◌}
use native.Mathlib.Numerals.{add-one}
use native.Mathlib.Omega.{arith}
use borrow.Author.Tests.{le-ltb}
use lib.Dec.{ltb}
use lib.IntN.{ℤ, pos, nat_abs}
use lib.ListN.{length, get_or, replicate}
use lib.Pow.{pow_pos}
use lib.Seq.{ext_get_or}
use Rattle.integers.specs.Flat.{at, stores, flat_vector}
use Rattle.integers.proofs.Flat.{at-flat_vector, length-list_from, getD_list_from}
use Rattle.integers.proofs.Stores.{length-stores, stores_ext}
use Rattle.integers.proofs.Maximum.{le_or_lt}
use Rattle.additions.specs.Additions.{nonzero}
use Rattle.job.specs.Header.{Limits, radix}
use Rattle.job.proofs.Limits as limits
use Rattle.job.specs.declared.Header.{Header}
use Rattle.integers.specs.Flat.{filled}
use Rattle.stepping.specs.Steps.{last_digits, state_factor, chosen_digits, residuals_left, digits_stored, one_step, steps}
use Rattle.choice.specs.Inner.{digit_from, residual_from, MayChoose}
use Rattle.spans.specs.Inner.{row_dot, Summed, MaySumRows}
use Rattle.choice.specs.declared.units.Units.{Units}
use Rattle.stepping.specs.declared.plan.Plan.{Plan}
use Rattle.stepping.specs.Inner.{FirstZero, state_at, Between, MayStepOnce, Stepped, MayStep}
use Rattle.counts.specs.Inner.{Counts}
use Rattle.stepping.proofs.Limits.{KeepsLimits, may-sum-rows, may_choose_from, radix_two}
use Rattle.choice.proofs.Chosen.{digit_most}
use Rattle.stepping.proofs.Digits.{first_zero}
use Rattle.stepping.proofs.Stepped.{length-stepped_digits, stepped_digit_past, filled-summed, filled_stepped, filled-left, keeps_limits-next}
use Rattle.integers.proofs.Filled.{length-filled, filled_row}
use Rattle.state.specs.State.{state_unit, digits_of, PassesLimits}
use Rattle.state.specs.Inner.{state_of}
use Rattle.state.specs.declared.State.{State}
use Rattle.stepping.proofs.Steps.{steps-header, steps-scale, steps-busy, steps_k, stored_same}
use Rattle.stepping.proofs.Kept.{steps_pass_limits, keeps_limits}

-- ---- the digits of a step, stored and copied out again

module _ (n k : ℕ) (ds d : List ℤ) (order : n ≤ 16) (size : length d ≡ 16) (past : (i : ℕ) → n ≤ i → at d i ≡ pos 0) (room : 16 * k + 16 ≤ length ds) where
  abbrev row : ℕ → ℤ
  row = digits_of (digits_stored n k ds d) (suc k)

  pub stored_copied : flat_vector n row ≡ d
  stored_copied = ext_get_or (pos 0) (flat_vector n row) d (length-list_from 0 16 _ ∙ sym size) (λ i l. same i (rw (length-list_from 0 16 (λ i. cond (ltb i n) (row i) (pos 0))) at l) (le_or_lt n i))
    where
      same : (i : ℕ) → i < 16 → (n ≤ i) ⊎ (i < n) → at (flat_vector n row) i ≡ at d i
      same i l (inl h) =
          let e : 0 + i ≡ i = omega arith in
          getD_list_from 0 16 (λ i. cond (ltb i n) (row i) (pos 0)) i l ∙ rw (e, le-ltb i n h) (sym (past i h))
      same i l (inr h) = at-flat_vector n row i order h ∙ stored_same n k ds d i h room order

pub steps_g : (s : State) (j : ℕ) → (steps s j).g ≡ s.g
unfolding steps one_step
steps_g s zero = refl
steps_g s (suc j) = steps_g s j

length_digits : (s : State) (j : ℕ) → length (steps s j).digits ≡ length s.digits
unfolding steps one_step
length_digits s zero = refl
length_digits s (suc j) =
    length-stores (steps s j).digits (λ i. 16 * (steps s j).k + i) (at (chosen_digits (steps s j))) (steps s j).header.n ∙ length_digits s j

state_is : (a : State) {b : Bool} {h : Header} {c k : ℕ} {g z ds : List ℤ} → b ≡ a.busy → h ≡ a.header → c ≡ a.scale → k ≡ a.k → g ≡ a.g → z ≡ a.z → ds ≡ a.digits
    → record { busy = b; header = h; scale = c; k = k; g = g; z = z; digits = ds } ≡ a
state_is a eb eh ec ek eg ez ed = rw (eb, eh, ec, ek, eg, ez, ed) refl

-- a job with no steps made, put together from its parts
pub fresh_whole : (s : State) → s.busy ≡ true → s.k ≡ 0 → state_of true s.header s.scale 0 s.g s.z s.digits ≡ s
fresh_whole s e f = state_is s (sym e) refl refl (sym f) refl refl refl

-- a busy state put together from its parts
pub busy_whole : (s : State) → s.busy ≡ true → state_of true s.header s.scale s.k s.g s.z s.digits ≡ s
busy_whole s e = state_is s (sym e) refl refl refl refl refl refl

-- the state put together from the arrays after the last step
pub steps_whole : (s : State) (j : ℕ) (z ds : List ℤ) → z ≡ (steps s j).z → ds ≡ (steps s j).digits
    → record { busy = s.busy; header = s.header; scale = s.scale; k = s.k + j; g = s.g; z = z; digits = ds } ≡ steps s j
steps_whole s j z ds ez ed = state_is (steps s j) (sym (steps-busy s j)) (sym (steps-header s j)) (sym (steps-scale s j)) (sym (steps_k s j)) (sym (steps_g s j)) ez ed

module _ {s : State} {made : ℕ} (b : MayStep s made) where
  pub steps_have_room : s.k + made ≤ 60
  steps_have_room = omega (arith, b.left, limits.last-small s.header s.scale b.passes.scaled)

-- ---- one step

-- the rows filled with their sums
pub rows-summed : {n : ℕ} {g d s : List ℤ} (v : List ℤ) → length v ≡ 16 → n ≤ 16 → s ≡ filled (row_dot n g d) v n → (length s ≡ 16) × Summed n g d s
rows-summed {n} {g} {d} v size order e = (rw e (length-filled (row_dot n g d) v n ∙ size), filled-summed v size order e)

-- a step can be made with the digits of the step before
first_limits : {s : State} {before : List ℤ} → PassesLimits s → before ≡ last_digits s
    → KeepsLimits s.header.n (radix s.header.code) (state_factor s) s.header.p (state_unit s) s.g s.z before
first_limits b e = rw e (keeps_limits _ b)

-- and the rows be summed with them
pub may-sum_first : {s : State} {before : List ℤ} → PassesLimits s → before ≡ last_digits s
    → (s.header.n ≤ 16) × MaySumRows s.header.n s.g before × FirstZero s.k before
may-sum_first {s} b e = (b.limits.order_most, may-sum-rows (first_limits b e), first_zero s.digits s.header.n s.k e)

-- the numbers by which the digits of s are chosen: its radix r, r r^s, its largest digit, and the bits of its
-- residuals' unit
pub record UnitsOf (s : State) (u : Units) : Type 0 where
  pub radix_is : u.r ≡ radix s.header.code
  pub sums_are : u.q ≡ u.r * state_factor s
  pub largest_is : u.p ≡ s.header.p
  pub bits_are : 2 ^ u.f ≡ state_unit s

-- a job's are those of its plan
pub units_of : (plan : Plan) (k : ℕ) (g z ds : List ℤ) → UnitsOf (state_at plan k g z ds) plan.units
units_of plan k g z ds =
    let o = plan.of_job in
    record { radix_is = o.0; sums_are = rw o.0 o.1; largest_is = o.2; bits_are = o.3 }

-- and in radix 2 so are these, of which the code writes r and p out
abbrev pub two : Plan → Units
two plan =
    let i = plan.units.in_range in
    record { r = 2; q = plan.units.q; p = 1; f = plan.units.f; in_range = i }

pub units_of_two : (plan : Plan) (k : ℕ) (g z ds : List ℤ) (u : Units) → Limits plan.header → plan.header.p ≡ 1 → u.r ≡ 2 → u.q ≡ plan.units.q → u.p ≡ 1 → u.f ≡ plan.units.f → UnitsOf (state_at plan k g z ds) u
units_of_two plan k g z ds u l e er eq ep ef =
    let o = plan.of_job in
    let r_is = er ∙ radix_two l e in
    record { radix_is = r_is; sums_are = eq ∙ rw r_is o.1; largest_is = ep ∙ sym e; bits_are = rw ef o.3 }

module _ {s : State} {before sums : List ℤ} (a : MayStepOnce s before sums) {u : Units} (o : UnitsOf s u) where
  abbrev n : ℕ
  n = s.header.n

  every-row : MayChoose n u s.z sums
  every-row =
      may_choose_from (first_limits a.may.passes a.between.last) a.between.summed u o.radix_is (o.sums_are ∙ rw o.radix_is refl) o.largest_is o.bits_are

  -- a digit can be chosen in every row, and is at most p
  pub may_choose : (s.k < 60) × MayChoose n u s.z sums
  may_choose = (omega (arith, steps_have_room a.may), every-row)

  pub digits-most : (i : ℕ) → i < n → nat_abs (digit_from u s.z sums i) ≤ u.p
  digits-most i l = digit_most (every-row.rows i l)

  -- `new` has what the choice left in the vector being chosen
  module _ {new : List ℤ} (ec : new ≡ filled (digit_from u s.z sums) (replicate 16 (pos 0)) n) where
    new_is : new ≡ chosen_digits s
    new_is =
        ec ∙ filled_stepped a.between.summed u (state_factor s) s.z o.sums_are
        ∙ rw (o.largest_is, o.radix_is, o.bits_are, a.between.last) refl

    next-limits : KeepsLimits n (radix s.header.code) (state_factor s) s.header.p (state_unit s) s.g (residuals_left s) new
    next-limits =
        keeps_limits-next (rw o.bits_are at (pow_pos u.f)) (keeps_limits s a.may.passes) refl new_is

    -- the rows can be summed with it
    pub may-sum : MaySumRows n s.g new
    may-sum = may-sum-rows next-limits

    -- in the rows below n it has the digits chosen, and only these are stored
    pub new_row : (i : ℕ) → i < n → at new i ≡ digit_from u s.z sums i
    new_row i l =
        rw ec (filled_row (digit_from u s.z sums) (replicate 16 (pos 0)) n i l (omega (arith, a.may.passes.limits.order_most)))

    new_stored : stores s.digits (λ i. 16 * s.k + i) (digit_from u s.z sums) n ≡ digits_stored n s.k s.digits new
    new_stored = stores_ext _ _ _ _ n (λ i l. sym (new_row i l))

    -- they are counted, from t₀ on
    pub new_counted : (t₀ : List ℕ) {t : List ℕ} → Counts n (λ j. get_or t₀ j 0 + nonzero (digit_from u s.z sums j)) t → Counts n (λ j. get_or t₀ j 0 + nonzero (at new j)) t
    new_counted t₀ h = record { size = h.size; columns = λ j l. h.columns j l ∙ rw (new_row j l) refl }

    -- and the step is made: `z` and `ds` have what the choice left, and `sums'` the rows' sums
    pub stepped : {z ds sums' : List ℤ} → z ≡ filled (residual_from u s.z sums) s.z n → ds ≡ stores s.digits (λ i. 16 * s.k + i) (digit_from u s.z sums) n
        → Summed n s.g new sums' → Stepped s z ds new sums'
    unfolding one_step
    stepped ez ed es =
        record {
          residuals = ez ∙ filled-left a.between.summed u (state_factor s) s.z o.sums_are ∙ rw (o.largest_is, o.radix_is, o.bits_are, a.between.last) refl;
          digits = ed ∙ new_stored ∙ rw new_is refl;
          newest = new_is;
          summed = es;
        }

-- ---- a loop over steps

-- what the arrays hold after j steps
pub record Reached (s : State) (j : ℕ) (ds z before sums : List ℤ) : Type 0 where
  pub digits : ds ≡ (steps s j).digits
  pub residuals : z ≡ (steps s j).z
  pub between : Between (steps s j) before sums

-- none: `sums` is what `first_sums` gave
pub reached_start : {s : State} {before sums : List ℤ} → PassesLimits s → before ≡ last_digits s → sums ≡ filled (row_dot s.header.n s.g before) (replicate 16 (pos 0)) s.header.n
    → (length sums ≡ 16) × Reached s 0 s.digits s.z before sums
unfolding steps
reached_start {s} {before} b e f =
    let q = rows-summed {d = before} (replicate 16 (pos 0)) refl b.limits.order_most f in
    (q.0, record { digits = refl; residuals = refl; between = record { last = e; summed = q.1 } })

module _ {s : State} {made j : ℕ} {ds z before sums : List ℤ} (b : MayStep s made) (l : j < made) (h : Reached s j ds z before sums) where
  abbrev S : State
  S = steps s j

  -- the state that the arrays make
  abbrev now_is : State
  now_is = state_of s.busy s.header s.scale (s.k + j) s.g z ds

  whole : now_is ≡ S
  whole = steps_whole s j z ds h.residuals h.digits

  left : MayStep S 1
  left =
      record {
        passes = steps_pass_limits s j b.passes (omega (arith, b.left));
        room = length_digits s j ∙ b.room;
        left = rw (steps-header s j, steps-scale s j, steps_k s j) (omega (arith, b.left));
      }

  -- one more can be made of it
  pub reached_may : MayStepOnce now_is before sums
  reached_may = rw whole (record { may = left; between = h.between })

  -- and the digits that it chooses are found again where it stored them
  copied : last_digits (one_step S) ≡ chosen_digits S
  unfolding one_step
  copied =
      stored_copied S.header.n S.k S.digits (chosen_digits S) left.passes.limits.order_most
      (length-stepped_digits S.header.n (radix S.header.code) (state_factor S) S.header.p (state_unit S) S.g S.z (last_digits S))
      (stepped_digit_past S.header.n (radix S.header.code) (state_factor S) S.header.p (state_unit S) S.g S.z (last_digits S))
      (omega (arith, left.room, steps_have_room left))

  -- after it the vector chosen is the step before
  pub reached_next : {ds' z' chosen' sums' : List ℤ} → Stepped now_is z' ds' chosen' sums' → Reached s (j + 1) ds' z' chosen' sums'
  unfolding steps one_step
  reached_next {ds'} {z'} {chosen'} {sums'} t = rw add-one (turn (rw whole at t))
    where
      turn : Stepped S z' ds' chosen' sums' → Reached s (suc j) ds' z' chosen' sums'
      turn q =
          record {
            digits = q.digits;
            residuals = q.residuals;
            between = record {
              last = q.newest ∙ sym copied;
              summed = q.summed;
            };
          }
