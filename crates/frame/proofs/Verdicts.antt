-- A refusal number with the row given with it, of any list of checks: how the verdict of a list comes from
-- those of its parts. Cited by the proofs of the functions that look at a part of the checks.
use mathlib.Core.Path.{◌≡◌, refl, sym, ap, ap₂, ◌∙◌}
use mathlib.Core.Bool.{Bool, true, false, not, cond}
use mathlib.Core.List.{List, [], ◌∷◌, ◌++◌}
use Prim.Native.Nat.{ℕ, ◌+◌, ◌-◌, ◌^◌, ◌<◌, ◌≤◌}
use native.Mathlib.Omega.{arith}
use borrow.Author.Tests.{lt-ltb, le-ltb, eq-eqb}
use lib.Dec.{T, eqb}
use lib.IntN.{ℤ, pos, negsuc, nat_abs}
use lib.ListN.{length, get_or}
use lib.Pow.{pow_mono}
use lib.Signed.{mag}
use Rattle.integers.specs.Flat.{at, entry, flat_vector, flat_matrix}
use Rattle.integers.proofs.Normal.{both, both_left, both_right}
use Rattle.bitfields.specs.Twos.{AllFit}
use Rattle.job.specs.Header.{number_bits, count, Limits}
use Rattle.job.specs.Refusal.{Check, first_refusal}
use Rattle.job.proofs.Refusal.{numbered, refused-before, accepted-before}
use Rattle.job.specs.Rules.{scaled_steps_out_of_range}
use Rattle.system.specs.Rows.{heavy_row}
use Rattle.system.specs.System.{matrix_of, right_side_of}
use Rattle.scale.specs.Scale.{scale, job_scale}
use Rattle.scale.proofs.Smallest.{scale_flat}
use Rattle.job.specs.declared.Header.{Header}
use Rattle.job.specs.Refused.{Verdict, number_of, verdict_by, without_row}
use Rattle.job.specs.declared.refusals.Refused.{Refused}
use Rattle.job.proofs.Numbers.{rowless_number}
use Rattle.system.specs.Inner.{Numbers}
use Rattle.system.proofs.Searches.{heavy_flat}
use Rattle.frame.specs.Frame.{number_checks, frame_row}
use Rattle.frame.specs.Inner.{checks_verdict, numbers_verdict}

-- none of the numbers is 8, so no row goes with them
unfoldable pub rowless : List Check → Bool
rowless [] = true
rowless (c ∷ cs) = both (not (eqb c.0 8)) (rowless cs)

-- so the first refusal of them is not 8, and no row goes with the error of that number
no_row : (cs : List Check) → T (rowless cs) → first_refusal cs ≡ 8 → ⊥
unfolding rowless
no_row [] t e = absurd (omega arith)
no_row ((k, true) ∷ cs) t e = absurd (rw (eq-eqb k 8 e) at (both_left (not (eqb k 8)) (rowless cs) t))
no_row ((k, false) ∷ cs) t e = no_row cs (both_right (not (eqb k 8)) (rowless cs) t) e

pub error_rowless : (cs : List Check) (e : Refused) → T (rowless cs) → number_of e ≡ first_refusal cs
    → verdict_by e ≡ without_row (first_refusal cs)
error_rowless cs e t p = rw (rowless_number e (λ q. no_row cs t (sym p ∙ q)), p)

-- ---- the verdict by parts

fails : (a : Bool) (x : ℕ) → T (not a) → cond a x 0 ≡ 0
fails true x t = absurd t
fails false x t = refl

module _ (h : Header) (v : List ℤ) where
  row-none : (cs : List Check) → T (rowless cs) → frame_row (first_refusal cs) h v ≡ 0
  unfolding rowless
  row-none [] t = refl
  row-none ((k, true) ∷ cs) t = fails (eqb k 8) _ (both_left (not (eqb k 8)) (rowless cs) t)
  row-none ((k, false) ∷ cs) t = row-none cs (both_right (not (eqb k 8)) (rowless cs) t)

  -- refused by the first checks, with which no row goes
  pub verdict_before : (xs ys : List Check) {c : ℕ} → T (rowless xs) → c ≡ first_refusal xs → 0 < c
      → record { refusal = c; row = 0 } ≡ checks_verdict (xs ++ ys) h v
  unfolding checks_verdict
  verdict_before xs ys {c} t e z =
      let r : frame_row c h v ≡ 0 = rw e (row-none xs t) in
      rw (refused-before xs ys c z (sym e), r)

  -- refused by the first checks
  pub verdict_first : (xs ys : List Check) {d : Verdict} → d ≡ checks_verdict xs h v → 0 < d.refusal → d ≡ checks_verdict (xs ++ ys) h v
  unfolding checks_verdict
  verdict_first xs ys e z =
      let r : first_refusal (xs ++ ys) ≡ first_refusal xs = refused-before xs ys (first_refusal xs) (rw e at z) refl in
      e ∙ ap (λ (c : ℕ). record { refusal = c; row = frame_row c h v }) (sym r)

  -- not refused by the first checks
  pub verdict_after : (xs ys : List Check) → T (numbered xs) → first_refusal xs ≡ 0 → checks_verdict (xs ++ ys) h v ≡ checks_verdict ys h v
  unfolding checks_verdict
  verdict_after xs ys t e = ap (λ (c : ℕ). record { refusal = c; row = frame_row c h v }) (accepted-before xs ys t e)

-- ---- 8 and 15, as they are computed

pub of_heavy : (a : ℕ) (b : Bool) → 0 < a → record { refusal = 8; row = a } ≡ numbers_verdict a b
of_heavy a b h = rw (lt-ltb 0 a h)

pub of_steps : (a : ℕ) (b : Bool) → a ≤ 0 → b ≡ true → record { refusal = 15; row = 0 } ≡ numbers_verdict a b
of_steps a b h t = rw (le-ltb 0 a h, t)

pub of_none : (a : ℕ) (b : Bool) → a ≤ 0 → b ≡ false → record { refusal = 0; row = 0 } ≡ numbers_verdict a b
of_none a b h t = rw (le-ltb 0 a h, t)

-- the arrays of a job's system, from which its heavy row and its scale are found
module _ (h : Header) (v : List ℤ) {g z : List ℤ} (l : h.n ≤ 16) (e : g ≡ flat_matrix h.n (matrix_of h v)) (f : z ≡ flat_vector h.n (right_side_of h v)) where
  pub scale_found : scale h (at z) ≡ job_scale h v
  scale_found = rw f (scale_flat h (right_side_of h v) l)

  heavy_found : heavy_row h (entry g) ≡ heavy_row h (matrix_of h v)
  heavy_found = rw e (heavy_flat h (matrix_of h v) l)

  -- the verdict of 8 and 15 on them, at their scale s, is the job's
  pub system_decides : {s : ℕ} {d : Verdict} → s ≡ scale h (at z) → d ≡ numbers_verdict (heavy_row h (entry g)) (scaled_steps_out_of_range h s)
      → d ≡ checks_verdict (number_checks h v) h v
  unfolding checks_verdict
  system_decides k m =
      m ∙ ap₂ (λ (a s : ℕ). numbers_verdict a (scaled_steps_out_of_range h s)) heavy_found (k ∙ scale_found)

-- numbers that fit are at most 2, and small enough to set the system up from
abs_mag : (z : ℤ) → nat_abs z ≤ mag z + 1
abs_mag (pos n) = omega arith
abs_mag (negsuc n) = omega arith

pub number-most : (h : Header) (v : List ℤ) → AllFit (number_bits h) v → (i : ℕ) → i < length v → nat_abs (get_or v i (pos 0)) ≤ 2 ^ (h.f + 1)
number-most h v f i k =
    let e : number_bits h - 1 ≡ h.f + 1 = omega arith in
    omega (arith, abs_mag (get_or v i (pos 0)), rw e at (f.each_fits i k).size)

pub numbers-small : {h : Header} {v : List ℤ} → Limits h → length v ≡ count h → AllFit (number_bits h) v → Numbers (count h) v
numbers-small {h} {v} l e f = record {
  enough = omega (arith, e);
  small = λ i k. record { abs = omega (arith, number-most h v f i (rw e k), pow_mono {i = h.f + 1} {j = 41} (omega (arith, l.fraction_most))) };
}
