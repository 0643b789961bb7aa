-- Demand 3, proved: what holds after every list of calls from the fresh load of an accepted frame.
use mathlib.Core.Path.{◌≡◌, refl, ap, ◌∙◌}
use mathlib.Core.List.{List, [], ◌∷◌}
use Prim.Native.Nat.{ℕ, zero, suc, ◌+◌, ◌*◌, ◌-◌, ◌^◌, ◌<◌, ◌≤◌}
use native.Mathlib.Nat.{pow-succ', one-le-pow, mul-le-mul, mul-le-mul_left, mul-le-mul_right, le_of_mul-le-mul_left}
use native.Mathlib.Omega.{arith}
use lib.Pow.{pow-add}
use lib.IntN.{ℤ, pos, nat_abs, ◌+ℤ◌, ◌-ℤ◌, ◌*ℤ◌}
use lib.ListN.{length, drop, get_or-append}
use Rattle.integers.specs.Flat.{at, list_from}
use Rattle.integers.proofs.Flat.{length-list_from, getD_list_from}
use Rattle.integers.specs.Sum.{dot, weight}
use Rattle.integers.proofs.Normal.{solve, polys}
use Rattle.integers.proofs.Product.{dot_ext, dot-scale}
use Rattle.job.specs.Header.{radix, unit, Limits}
use Rattle.job.specs.Kind.{kind_of}
use Rattle.job.proofs.Limits.{radix_least, unit-least, inner_least, digit_positive, last-small}
use Rattle.job.specs.Rules.{last_step, scale_factor, inner_unit, bound_over, bound_under}
use Rattle.system.specs.System.{matrix_of, right_side_of}
use Rattle.additions.specs.Additions.{entries, most_entries}
use Rattle.additions.proofs.Theorems.{additions_most, entries-most}
use Rattle.scale.specs.Scale.{job_scale}
use Rattle.job.specs.declared.Header.{Header}
use Rattle.frame.specs.Frame.{frame_refusal, frame_numbers}
use Rattle.header.specs.Header.{header_of}
use Rattle.frame.proofs.Valid.{accepted-frame}
use Rattle.frame.proofs.Theorems.{frame-scale}
use Rattle.frame.specs.Theorems.{ValidJob, FrameScaled}
use Rattle.recurrence.specs.Recurrence.{select, digit, LightRows, Solves, reading}
use Rattle.recurrence.proofs.Theorems.{steps-run, identity, select_distance, short}
use Rattle.curve.proofs.Value.{kind-value}
use Rattle.state.specs.State.{digits_of, fresh}
use Rattle.state.specs.declared.State.{State}
use Rattle.evaluator.specs.Evaluator.{loaded, smaller, state_reading, readings_list, readings_refusal}
use Rattle.stepping.specs.Steps.{finer, steps, job_digit, job_residual, Follows}
use Rattle.state.proofs.PassesLimits.{start-kept}
use Rattle.stepping.proofs.Kept.{light-row, light-row-finer}
use Rattle.evaluator.proofs.Kept.{loaded-passes}
use Rattle.evaluator.proofs.Theorems.{refused-readings}
use Rattle.stepping.proofs.Steps.{steps-header, steps-scale, steps_k}
use Rattle.stepping.proofs.Follow.{fresh_follows, follows_steps}
use Rattle.stepping.proofs.Additions.{follows_additions}
use Rattle.accuracy.specs.Accuracy.{Call, budgets, job_additions, after, additions_made, DigitCount, Accurate, EveryFrameAccurate}
use Rattle.accuracy.proofs.Runs.{smaller-within, run_all, counted_all}

-- ---- laws over plain numbers

-- the digits of the first k steps decide the reading
reading_ext : (r : ℕ) (c d : ℕ → ℕ → ℤ) (k i : ℕ) → ((j : ℕ) → 1 ≤ j → j ≤ k → c j i ≡ d j i) → reading r c k i ≡ reading r d k i
unfolding reading
reading_ext r c d zero i h = refl
reading_ext r c d (suc k) i h = rw (reading_ext r c d k i (λ j a b. h j a (omega arith)), h (suc k) (omega arith) (omega arith))

-- what solves the rows solves them in a unit c times as fine, over a denominator c times as large
solves-finer : (n u D c : ℕ) (G : ℕ → ℕ → ℤ) (B N : ℕ → ℤ) → Solves n u D G B N → Solves n (u * c) (D * c) (finer c G) B N
solves-finer n u D c G B N e = record { solves = λ i l. rw (dot-scale n (pos c) (G i) N) (row (pos u) (pos c) (pos D) (N i) (dot n (G i) N) (B i) (e.solves i l)) }
  where
    row : (u c D N g B : ℤ) → u *ℤ N -ℤ g ≡ D *ℤ B → u *ℤ c *ℤ N -ℤ c *ℤ g ≡ D *ℤ c *ℤ B
    row u c D N g B e =
        solve (u ∷ c ∷ N ∷ g ∷ []) (search polys depth 14) (search polys depth 14) tt ∙ ap (λ x. c *ℤ x) e
        ∙ solve (c ∷ D ∷ B ∷ []) (search polys depth 12) (search polys depth 12) tt

-- and a distance in these numbers is demand 3's
near-scaled : (p D c : ℕ) (N : ℤ) (R : ℕ) (Y : ℤ) (q : ℕ) → q * nat_abs (N *ℤ pos R -ℤ pos (D * c) *ℤ Y) ≤ p * (D * c)
    → q * nat_abs (N *ℤ pos R -ℤ pos D *ℤ Y *ℤ pos c) ≤ p * D * c
near-scaled p D c N R Y q l =
    let e : pos D *ℤ Y *ℤ pos c ≡ pos (D * c) *ℤ Y = turned (pos D) (pos c) Y in
    rw e (omega arith)
  where
    turned : (D c Y : ℤ) → D *ℤ Y *ℤ c ≡ D *ℤ c *ℤ Y
    turned D c Y = solve (D ∷ c ∷ Y ∷ []) (search polys depth 12) (search polys depth 12) tt

-- after m + 1 + s steps a distance of at most p D r^s over r - 1 is below D r^k over r^m, as p is below r
nearer : (r p m s D x : ℕ) → 2 ≤ r → p ≤ r - 1 → 0 < D → (r - 1) * x ≤ p * D * r ^ s → r ^ m * x < D * r ^ (m + 1 + s)
nearer r p m s D x two small some near =
    let c : 1 ≤ r ^ s = one-le-pow s r (omega arith) in
    let q : 1 ≤ r ^ m = one-le-pow m r (omega arith) in
    let within : x ≤ D * r ^ s = le_of_mul-le-mul_left {k = r - 1} (omega (arith, mul-le-mul_right (D * r ^ s) small)) (omega arith) in
    let e : m + 1 + s ≡ suc (m + s) = omega arith in
    rw (e, pow-succ' r (m + s), pow-add r m s) (below (r ^ m) (r ^ s) q c within)
  where
    below : (q c : ℕ) → 1 ≤ q → 1 ≤ c → x ≤ D * c → q * x < D * (r * (q * c))
    below q c hq hc l =
        let t : 1 ≤ q * (D * c) = mul-le-mul hq (mul-le-mul some hc) in
        let u : 2 * (q * (D * c)) ≤ r * (q * (D * c)) = mul-le-mul_right (q * (D * c)) two in
        omega (arith, mul-le-mul_left q l)

-- what a state that follows the recurrence holds, by its header, its scale and its steps
module _ (G : ℕ → ℕ → ℤ) (B : ℕ → ℤ) (t : State) (h : Header) (s k : ℕ) (e : t.header ≡ h) (c : t.scale ≡ s) (f : t.k ≡ k) (holds : Follows G B t) where
  held-digits : (j i : ℕ) → j ≤ k → i < h.n → digits_of t.digits j i ≡ job_digit h s G B j i
  held-digits j i a b = rw (← e, ← c) (holds.digits j i (rw f a) (rw e b))

  held-later : (j i : ℕ) → k < j → j ≤ 60 → i < h.n → digits_of t.digits j i ≡ pos 0
  held-later j i a b l = holds.later j i (rw f a) b (rw e l)

  held-residuals : (i : ℕ) → i < h.n → at t.z i ≡ job_residual h s G B k i
  held-residuals i a = rw (← e, ← c, ← f) (holds.residuals i (rw e a))

  -- the reading over the first m of its digits
  held-reading : (m i : ℕ) → m ≤ k → i < h.n → reading (radix h.code) (digits_of t.digits) m i ≡ reading (radix h.code) (job_digit h s G B) m i
  held-reading m i a b = reading_ext (radix h.code) (digits_of t.digits) (job_digit h s G B) m i (λ j l d. held-digits j i (omega arith) b)

  -- what readings hand out
  held_out : (out : List ℤ) → readings_refusal t (length out) ≡ 0 → (i : ℕ) → i < h.n → at (readings_list t out) i ≡ reading (radix h.code) (job_digit h s G B) k i
  unfolding readings_list
  held_out out ok i a =
      let l : i < t.header.n = rw e a in
      let z : 0 + i ≡ i = omega arith in
      let m : i < length (list_from 0 t.header.n (state_reading t)) = rw (length-list_from 0 t.header.n (state_reading t)) l in
      rw ok
      (get_or-append (list_from 0 t.header.n (state_reading t)) (drop t.header.n out) (pos 0) i m
      ∙ getD_list_from 0 t.header.n (state_reading t) i l ∙ rw z (held-here i a))
    where
      held-here : (i : ℕ) → i < h.n → state_reading t i ≡ reading (radix h.code) (job_digit h s G B) k i
      held-here i a = rw (e, f) (held-reading k i (omega arith) a)

-- ---- an accepted frame

module _ (frame : List ℕ) (ok : frame_refusal frame ≡ 0) where
  abbrev h : Header
  h = header_of frame

  abbrev v : List ℤ
  v = frame_numbers frame

  abbrev n : ℕ
  n = h.n

  abbrev r : ℕ
  r = radix h.code

  abbrev s : ℕ
  s = job_scale h v

  abbrev G : ℕ → ℕ → ℤ
  G = matrix_of h v

  -- G in the unit of residuals
  abbrev inner : ℕ → ℕ → ℤ
  inner = finer (scale_factor h s) G

  abbrev B : ℕ → ℤ
  B = right_side_of h v

  -- what acceptance says of the header, the rows and the right-hand sides
  accepted : ValidJob h v
  accepted = ((accepted-frame frame).0 ok).valid

  limits : Limits h
  limits = accepted.limits

  -- and of the scale
  scaled : FrameScaled h v
  scaled = frame-scale frame ok

  -- the state after j steps of the fresh job
  abbrev at_step : ℕ → State
  at_step j = steps (fresh h v) j

  loaded_is : (loaded frame).state ≡ fresh h v
  unfolding loaded
  loaded_is = rw ok

  run_to : (calls : List Call) → after frame calls ≡ at_step (smaller (last_step h s) (budgets calls))
  unfolding fresh
  run_to calls = rw loaded_is (run_all (fresh h v) refl (loaded-passes frame ok) calls)

  rows : LightRows n r h.p (inner_unit h s) bound_over bound_under inner
  rows = record { rows = λ i l. light-row-finer h s (G i) limits (accepted.light i l) }

  -- the distance of the digits that the steps give, after any number of steps k
  near-steps : (k : ℕ) (N : ℕ → ℤ) (D : ℕ) → Solves n (unit h) D G B N → (i : ℕ) → i < n →
      (r - 1) * nat_abs (N i *ℤ pos (r ^ k) -ℤ pos D *ℤ reading r (job_digit h s G B) k i *ℤ pos (scale_factor h s)) ≤ h.p * D * scale_factor h s
  near-steps k N D exact i c =
      near-scaled h.p D (scale_factor h s) (N i) (r ^ k) (reading r (job_digit h s G B) k i) (r - 1)
      (select_distance (omega (arith, radix_least h limits)) (omega (arith, inner_least h s scaled.limits limits)) rows
      (λ i l. start-kept h s (B i) (scaled.smallest.fit i l)) (solves-finer n (unit h) D (scale_factor h s) G B N exact) k i c)

  -- and their digit count
  pub counted : DigitCount frame (reading r (job_digit h s G B) (last_step h s))
  counted N D some exact i c =
      nearer r h.p h.m s D _ (radix_least h limits) limits.digit_most some (near-steps (last_step h s) N D exact i c)

  -- the additions that calls count are those of the steps that the recurrence makes
  counts_to : (calls : List Call) → additions_made frame calls ≡ job_additions frame (smaller (last_step h s) (budgets calls))
  unfolding fresh
  counts_to calls =
      rw loaded_is (counted_all (fresh h v) refl (loaded-passes frame ok) calls)
      ∙ follows_additions G B (fresh h v) _ limits.order_most refl (omega (arith, smaller-within (last_step h s) (budgets calls), last-small h s scaled.limits))
      (fresh_follows h v limits.order_most)

  -- and these have at most so many: before the first step the digits are 0
  steps_most : (k : ℕ) → job_additions frame k ≤ (k - 1) * entries n G
  unfolding digit
  steps_most k = additions_most n G (job_digit h s G B) k (λ i l. refl)

  steps_most_by_kind : (k : ℕ) → job_additions frame k ≤ (k - 1) * most_entries (kind_of h.kind) n
  steps_most_by_kind k = omega (arith, steps_most k, mul-le-mul_left (k - 1) (entries-most (kind_of h.kind) n (unit h) v))

  -- what the j-th state holds
  module _ (j : ℕ) (few_j : j ≤ last_step h s) where
    k_is : (at_step j).k ≡ j
    unfolding fresh
    k_is = omega (arith, steps_k (fresh h v) j)

    header_is : (at_step j).header ≡ h
    unfolding fresh
    header_is = steps-header (fresh h v) j

    scale_is : (at_step j).scale ≡ s
    unfolding fresh
    scale_is = steps-scale (fresh h v) j

    holds : Follows G B (at_step j)
    unfolding fresh
    holds = follows_steps G B (fresh h v) j limits.order_most (omega (arith, last-small h s scaled.limits)) (fresh_follows h v limits.order_most)

    -- the identity, of the state's own digits and residuals
    state-identity : (i : ℕ) → i < n →
        pos (r ^ j) *ℤ B i -ℤ (pos (inner_unit h s) *ℤ reading r (digits_of (at_step j).digits) j i -ℤ dot n (inner i) (reading r (digits_of (at_step j).digits) j))
        ≡ at (at_step j).z i +ℤ dot n (inner i) (digits_of (at_step j).digits j)
    state-identity i l =
        rw (
          held-residuals G B (at_step j) h s j header_is scale_is k_is holds i l,
          held-reading G B (at_step j) h s j header_is scale_is k_is holds j i (omega arith) l,
          dot_ext n (inner i) (inner i) (reading r (digits_of (at_step j).digits) j) (reading r (job_digit h s G B) j) (λ m a. refl) (λ m a. held-reading G B (at_step j) h s j header_is scale_is k_is holds j m (omega arith) a),
          dot_ext n (inner i) (inner i) (digits_of (at_step j).digits j) (job_digit h s G B j) (λ m a. refl) (λ m a. held-digits G B (at_step j) h s j header_is scale_is k_is holds j m (omega arith) a),
        )
        (identity (steps-run n r (inner_unit h s) (select h.p (inner_unit h s)) inner B) j i l)

  -- the whole statement of the j-th state
  accurate-after : (calls : List Call) → Accurate frame calls
  accurate-after calls =
      let j : ℕ = smaller (last_step h s) (budgets calls) in
      let few_j : j ≤ last_step h s = smaller-within (last_step h s) (budgets calls) in
      record {
        steps_made = rw (run_to calls) (k_is j few_j);
        digits = λ t i a b c. rw (run_to calls) (held-digits G B (at_step j) h s j (header_is j few_j) (scale_is j few_j) (k_is j few_j) (holds j few_j) t i (rw (run_to calls, k_is j few_j) at b) c);
        later_digits = λ t i a b c. rw (run_to calls) (held-later G B (at_step j) h s j (header_is j few_j) (scale_is j few_j) (k_is j few_j) (holds j few_j) t i (rw (run_to calls, k_is j few_j) at a) b c);
        additions_counted = rw (run_to calls, k_is j few_j) (counts_to calls);
        additions_most = rw (run_to calls, k_is j few_j, counts_to calls) (steps_most j);
        additions_by_kind = rw (run_to calls, k_is j few_j, counts_to calls) (steps_most_by_kind j);
        scale_held = rw (run_to calls) (scale_is j few_j);
        near = λ k a N D d exact i c. rw (run_to calls, held-reading G B (at_step j) h s j (header_is j few_j) (scale_is j few_j) (k_is j few_j) (holds j few_j) k i (rw (run_to calls, k_is j few_j) at a) c)
            (near-steps k N D exact i c);
        digit_count = λ e N D d exact i c. rw (run_to calls, held-reading G B (at_step j) h s j (header_is j few_j) (scale_is j few_j) (k_is j few_j) (holds j few_j) (last_step h s) i (omega (arith, rw (run_to calls, k_is j few_j) at e)) c)
            (counted N D d exact i c);
        curve = λ a. kind-value (kind_of h.kind) n (unit h) v a (omega (arith, unit-least h limits)) limits.order_least
            (λ i l. short r h.p (unit h) bound_over bound_under (weight n (G i)) (radix_least h limits) (digit_positive h limits) limits.digit_most (omega arith) (omega arith)
            (light-row h (weight n (G i)) limits (accepted.light i l)));
        handed_out = λ before rest out e a i c.
            let b : ℕ = smaller (last_step h s) (budgets before) in
            let few_b : b ≤ last_step h s = smaller-within (last_step h s) (budgets before) in
            rw (run_to before) (held_out G B (at_step b) h s b (header_is b few_b) (scale_is b few_b) (k_is b few_b) (holds b few_b) out (rw (run_to before) at a) i c);
        nothing_out = λ before rest out e a. refused-readings (after frame before) out a;
        identity = λ i c. rw (run_to calls, k_is j few_j) (state-identity j few_j i c);
      }

-- demand 3
pub accurate : EveryFrameAccurate
accurate = accurate-after
