-- One step on lists: which row holds what, and that the limits hold again.
-- Cited by the proofs of the functions that make steps, and by the crates that make several.
use mathlib.Core.Path.{◌≡◌, refl, sym, ◌∙◌}
use mathlib.Core.List.{List}
use mathlib.Core.Logic.{◌⊎◌, inl, inr}
use Prim.Native.Nat.{ℕ, ◌*◌, ◌^◌, ◌<◌, ◌≤◌}
use native.Mathlib.Omega.{arith}
use lib.IntN.{ℤ, pos, nat_abs}
use lib.ListN.{length, replicate}
use lib.Seq.{ext_get_or}
use Rattle.integers.proofs.Maximum.{le_or_lt}
use Rattle.integers.proofs.Product.{dot-none, dot-scale}
use Rattle.recurrence.specs.Recurrence.{select, shifted, next_digit, next_residual}
use Rattle.recurrence.proofs.Selection.{select_selects}
use Rattle.recurrence.proofs.Theorems.{bounds_kept-next}
use Rattle.integers.specs.Flat.{at, entry}
use Rattle.integers.proofs.Filled.{length-filled, filled_past, filled_row, filled-each, at-zeros}
use Rattle.integers.proofs.Stores.{stores_ext}
use Rattle.job.specs.Rules.{bound_over, bound_under}
use Rattle.integers.specs.Flat.{filled}
use Rattle.stepping.specs.Steps.{finer, stepped_digits, stepped_residuals}
use Rattle.choice.specs.Inner.{digit_from, residual_from}
use Rattle.choice.specs.declared.units.Units.{Units}
use Rattle.spans.specs.Inner.{row_dot, Summed}
use Rattle.stepping.proofs.Limits.{KeepsLimits}
use Rattle.choice.proofs.ShiftedResidual.{shifted_together}

-- ---- a step

module _ (n r c p u : ℕ) (g z d : List ℤ) where
  pub length-stepped_digits : length (stepped_digits n r c p u g z d) ≡ 16
  unfolding stepped_digits
  length-stepped_digits = length-filled (next_digit n r (select p u) (finer c (entry g)) (at z) (at d)) (replicate 16 (pos 0)) n

  pub length-stepped_residuals : length (stepped_residuals n r c p u g z d) ≡ length z
  unfolding stepped_residuals
  length-stepped_residuals = length-filled (next_residual n r u (select p u) (finer c (entry g)) (at z) (at d)) z n

  -- in the rows below n
  pub stepped_digit : (i : ℕ) → i < n → i < 16 → at (stepped_digits n r c p u g z d) i ≡ next_digit n r (select p u) (finer c (entry g)) (at z) (at d) i
  unfolding stepped_digits
  stepped_digit i l h = filled_row (next_digit n r (select p u) (finer c (entry g)) (at z) (at d)) (replicate 16 (pos 0)) n i l h

  pub stepped_residual : (i : ℕ) → i < n → i < length z → at (stepped_residuals n r c p u g z d) i ≡ next_residual n r u (select p u) (finer c (entry g)) (at z) (at d) i
  unfolding stepped_residuals
  stepped_residual i l h = filled_row (next_residual n r u (select p u) (finer c (entry g)) (at z) (at d)) z n i l h

  -- past them
  pub stepped_digit_past : (i : ℕ) → n ≤ i → at (stepped_digits n r c p u g z d) i ≡ pos 0
  unfolding stepped_digits
  stepped_digit_past i h = filled_past (next_digit n r (select p u) (finer c (entry g)) (at z) (at d)) (replicate 16 (pos 0)) n i h ∙ at-zeros i

  pub stepped_residual_past : (i : ℕ) → n ≤ i → at (stepped_residuals n r c p u g z d) i ≡ at z i
  unfolding stepped_residuals
  stepped_residual_past i h = filled_past (next_residual n r u (select p u) (finer c (entry g)) (at z) (at d)) z n i h

-- the rows filled with their sums
pub filled-summed : {n : ℕ} {g d s : List ℤ} (v : List ℤ) → length v ≡ 16 → n ≤ 16 → s ≡ filled (row_dot n g d) v n → Summed n g d s
filled-summed {n} {g} {d} {s} v size order e =
    record { rows = λ i l. rw e (filled_row (row_dot n g d) v n i l (omega (arith, size))) }

-- before the first step: with digits that are 0 every sum is 0
module _ (n : ℕ) (g : List ℤ) {d : List ℤ} (order : n ≤ 16) (e : d ≡ replicate 16 (pos 0)) where
  zeros-row : (i : ℕ) → (n ≤ i) ⊎ (i < n) → at (replicate 16 (pos 0)) i ≡ at (filled (row_dot n g d) (replicate 16 (pos 0)) n) i
  zeros-row i (inl m) = sym (filled_past (row_dot n g d) (replicate 16 (pos 0)) n i m)
  zeros-row i (inr m) =
      at-zeros i ∙ sym (dot-none n (entry g i) (at d) (λ j l. rw e (at-zeros j)))
      ∙ sym (filled_row (row_dot n g d) (replicate 16 (pos 0)) n i m (omega arith))

  pub zeros-filled : replicate 16 (pos 0) ≡ filled (row_dot n g d) (replicate 16 (pos 0)) n
  zeros-filled =
      ext_get_or (pos 0) (replicate 16 (pos 0)) (filled (row_dot n g d) (replicate 16 (pos 0)) n) (sym (length-filled (row_dot n g d) (replicate 16 (pos 0)) n))
      (λ i l. zeros-row i (le_or_lt n i))

-- chosen from the rows' sums, digits and residuals are those of the step
module _ {n : ℕ} {g d s : List ℤ} (sums : Summed n g d s) (w : Units) (c : ℕ) (z : List ℤ) (e : w.q ≡ w.r * c) where
  pub filled_stepped : filled (digit_from w z s) (replicate 16 (pos 0)) n ≡ stepped_digits n w.r c w.p (2 ^ w.f) g z d
  unfolding stepped_digits next_digit shifted
  filled_stepped = stores_ext _ _ _ _ n (λ i l. rw (e, sums.rows i l, shifted_together (at z i) (row_dot n g d i) w.r c, dot-scale n (pos c) (entry g i) (at d)) refl)

  pub filled-left : filled (residual_from w z s) z n ≡ stepped_residuals n w.r c w.p (2 ^ w.f) g z d
  unfolding stepped_residuals next_residual next_digit shifted
  filled-left = stores_ext _ _ _ _ n (λ i l. rw (e, sums.rows i l, shifted_together (at z i) (row_dot n g d i) w.r c, dot-scale n (pos c) (entry g i) (at d)) refl)

-- a step leaves what can make the next one; z' and d' are what it gave
pub keeps_limits-next : {n r c p u : ℕ} {g z d z' d' : List ℤ} → 0 < u → KeepsLimits n r c p u g z d →
    z' ≡ stepped_residuals n r c p u g z d → d' ≡ stepped_digits n r c p u g z d → KeepsLimits n r c p u g z' d'
unfolding stepped_residuals stepped_digits
keeps_limits-next {n} {r} {c} {p} {u} {g} {z} {d} hu h ez ed =
    let k = bounds_kept-next (select_selects p u hu) h.light h.within in
    rw (ez, ed)
    (record {
      order = h.order;
      radix = h.radix;
      factor = h.factor;
      largest = h.largest;
      unit-most = h.unit-most;
      weights = h.weights;
      light = h.light;
      within = record {
        z_small = filled-each (next_residual n r u (select p u) (finer c (entry g)) (at z) (at d)) z (λ x. bound_under * nat_abs x ≤ bound_over * u) n (omega arith) k.z_small;
        d_small = filled-each (next_digit n r (select p u) (finer c (entry g)) (at z) (at d)) (replicate 16 (pos 0)) (λ x. nat_abs x ≤ p) n (omega arith) k.d_small;
      };
    })
