-- What a state has to keep to pass refusal 24, condition by condition, and that a fresh job of light rows,
-- whose right-hand sides fit its scale, passes.
use mathlib.Core.Path.{◌≡◌, refl, ap}
use mathlib.Core.Bool.{Bool, true, false, not, ◌||◌, true≢false}
use mathlib.Core.List.{List}
use mathlib.Core.Logic.{◌↔◌}
use Prim.Native.Nat.{ℕ, ◌+◌, ◌-◌, ◌*◌, ◌<◌, ◌≤◌}
use native.Mathlib.Omega.{arith}
use borrow.Author.Tests.{le-ltb, ltb-false, le-leb, leb-true, not-false}
use lib.IntN.{ℤ, pos, nat_abs}
use lib.ListN.{get_or-replicate}
use Rattle.integers.proofs.Absolute.{abs-zero}
use Rattle.integers.specs.Flat.{at, entry, flat_matrix}
use Rattle.integers.proofs.Flat.{at-flat_vector, entry-flat_matrix}
use Rattle.integers.specs.Sum.{weight}
use Rattle.integers.proofs.Product.{weight_ext}
use Rattle.job.specs.Header.{header_checks, Limits}
use Rattle.job.proofs.Limits.{limits_exactly, scale-limits, last-small}
use Rattle.job.specs.Refusal.{first_refusal}
use Rattle.system.specs.Rows.{light_enough, residual_kept}
use Rattle.job.specs.Rules.{ScaleLimits, inner_unit, bound_over, bound_under}
use Rattle.system.specs.System.{matrix_of, right_side_of}
use Rattle.job.specs.declared.Header.{Header}
use Rattle.scale.specs.Scale.{job_scale}
use Rattle.state.specs.State.{all_steps, digit_places, state_last, state_unit, fresh, header_broken, scale_broken, steps_broken, row_broken, residual_broken, digit_beyond, later_digit, breaks_limit, PassesLimits, PassesExactly}
use Rattle.state.specs.declared.State.{State}
use Rattle.system.proofs.FirstRow.{no_row}
use Rattle.state.proofs.Digits.{beyond_false}

-- ---- each condition of 24, as what it leaves

module _ (s : State) where
  header-kept : (header_broken s ≡ false) ↔ Limits s.header
  header-kept =
      let r = first_refusal (header_checks s.header) in
      ((λ e. (limits_exactly s.header).0 (none r (ltb-false 0 r e))), (λ l. le-ltb 0 r (omega (arith, (limits_exactly s.header).1 l))))
    where
      none : (r : ℕ) → r ≤ 0 → r ≡ 0
      none r l = omega arith

  scale_kept : (scale_broken s ≡ false) ↔ ScaleLimits s.header s.scale
  scale_kept = scale-limits s.header s.scale

  steps-kept : (steps_broken s ≡ false) ↔ (s.k ≤ state_last s)
  steps-kept = (ltb-false (state_last s) s.k, le-ltb (state_last s) s.k)

  rows-kept : (row_broken s ≡ false) ↔ ((i : ℕ) → i < s.header.n → light_enough s.header (weight s.header.n (entry s.g i)) ≡ true)
  rows-kept =
      let r = no_row s.header.n (λ i. not (light_enough s.header (weight s.header.n (entry s.g i)))) in
      ((λ e i l. not-false _ ((r.0 e).never i l)), (λ h. r.1 (record { never = λ i l. ap not (h i l) })))

  residuals-kept : (residual_broken s ≡ false) ↔ ((i : ℕ) → i < s.header.n → bound_under * nat_abs (at s.z i) ≤ bound_over * state_unit s)
  residuals-kept =
      let r = no_row s.header.n (λ i. not (residual_kept s.header s.scale (at s.z i))) in
      ((λ e i l. leb-true _ _ (not-false _ ((r.0 e).never i l))), (λ h. r.1 (record { never = λ i l. ap not (le-leb _ _ (h i l)) })))

  digits-kept : (digit_beyond s.header s.k s.digits ≡ false) ↔ ((t i : ℕ) → t < s.k → i < s.header.n → nat_abs (entry s.digits t i) ≤ s.header.p)
  digits-kept =
      let r = beyond_false s.header.n s.header.p s.digits 0 s.k in
      ((λ e t i l m. r.0 e i m t (omega arith) (omega arith)), (λ h. r.1 (λ i m t g l. h t i (omega arith) m)))

  later-kept : s.k ≤ all_steps
      → (later_digit s ≡ false) ↔ ((t i : ℕ) → s.k ≤ t → t < all_steps → i < s.header.n → entry s.digits t i ≡ pos 0)
  later-kept k =
      let r = beyond_false s.header.n 0 s.digits s.k (all_steps - s.k) in (
        (λ e t i g l m. abs-zero (entry s.digits t i) (r.0 e i m t g (omega arith))),
        (λ h. r.1 (λ i m t g l. omega (arith, ap nat_abs (h t i g (omega arith) m)))),
      )

-- ---- all of them

all_fail : (a b c d e f g : Bool)
    → (a || (b || (c || (d || (e || (f || g)))))) ≡ false
    → (a ≡ false) × (b ≡ false) × (c ≡ false) × (d ≡ false) × (e ≡ false) × (f ≡ false) × (g ≡ false)
all_fail true b c d e f g p = absurd (true≢false p)
all_fail false true c d e f g p = absurd (true≢false p)
all_fail false false true d e f g p = absurd (true≢false p)
all_fail false false false true e f g p = absurd (true≢false p)
all_fail false false false false true f g p = absurd (true≢false p)
all_fail false false false false false true g p = absurd (true≢false p)
all_fail false false false false false false g p = (refl, refl, refl, refl, refl, refl, p)

pub passes-limits : PassesExactly
unfolding breaks_limit
passes-limits s = (to, of)
  where
    to : breaks_limit s ≡ false → PassesLimits s
    to e =
        let k = all_fail (header_broken s) (scale_broken s) (steps_broken s) (row_broken s) (residual_broken s) (digit_beyond s.header s.k s.digits) (later_digit s) e in
        let l = (header-kept s).0 k.0 in
        let x = (scale_kept s).0 k.1 in
        let m = (steps-kept s).0 k.2 in
        record {
          limits = l;
          scaled = x;
          steps = m;
          light = (rows-kept s).0 k.3;
          small = (residuals-kept s).0 k.4;
          made = (digits-kept s).0 k.5;
          later = (later-kept s (omega (arith, last-small s.header s.scale x))).0 k.6;
        }

    of : PassesLimits s → breaks_limit s ≡ false
    of p =
        rw (
          (header-kept s).1 p.limits,
          (scale_kept s).1 p.scaled,
          (steps-kept s).1 p.steps,
          (rows-kept s).1 p.light,
          (residuals-kept s).1 p.small,
          (digits-kept s).1 p.made,
          (later-kept s (omega (arith, p.steps, last-small s.header s.scale p.scaled))).1 p.later,
        )

-- a right-hand side that fits the scale s is a residual within its bound, as that of 0 steps has to be
pub start-kept : (h : Header) (s : ℕ) (B : ℤ) → 2 * nat_abs B ≤ inner_unit h s → bound_under * nat_abs B ≤ bound_over * inner_unit h s
start-kept h s B l = omega arith

-- the fresh job of a header and numbers that are accepted passes
pub fresh-passes : (h : Header) (v : List ℤ) → Limits h → ScaleLimits h (job_scale h v)
    → ((i : ℕ) → i < h.n → light_enough h (weight h.n (matrix_of h v i)) ≡ true)
    → ((i : ℕ) → i < h.n → 2 * nat_abs (right_side_of h v i) ≤ inner_unit h (job_scale h v))
    → PassesLimits (fresh h v)
unfolding fresh
fresh-passes h v l x p q =
    record {
      limits = l;
      scaled = x;
      steps = omega arith;
      light = λ i k. rw (same_weight i k) (p i k);
      small = λ i k. rw (at-flat_vector h.n (right_side_of h v) i l.order_most k) (start-kept h (job_scale h v) (right_side_of h v i) (q i k));
      made = λ t i k. absurd (omega arith);
      later = λ t i g k m. get_or-replicate digit_places (16 * t + i) (pos 0) (pos 0) (omega (arith, l.order_most));
    }
  where
    same_weight : (i : ℕ) → i < h.n → weight h.n (entry (flat_matrix h.n (matrix_of h v)) i) ≡ weight h.n (matrix_of h v i)
    same_weight i k =
        weight_ext h.n (entry (flat_matrix h.n (matrix_of h v)) i) (matrix_of h v i)
        (λ j m. entry-flat_matrix h.n (matrix_of h v) i j l.order_most k m)
