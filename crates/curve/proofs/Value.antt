-- Row 1 of a curve's system has the curve's value (document 01, "One step"): the proofs of the statements of
-- specs/Curve.antt, but for that of a sum of quotients, which stands in `Quotients`.
use mathlib.Core.Path.{◌≡◌, sym, ap}
use mathlib.Core.Bool.{true≢false}
use Prim.Native.Nat.{ℕ, zero, suc, ◌*◌, ◌-◌, ◌<◌, ◌≤◌, ◌^◌}
use native.Mathlib.Nat.{one-le-pow}
use native.Mathlib.Omega.{arith}
use lib.IntN.{ℤ, pos, nat_abs, ◌+ℤ◌, ◌*ℤ◌, zero-*ℤ, +ℤ_idr}
use lib.Signed.{◌<ℤ◌}
use Rattle.integers.proofs.Absolute.{abs_parts, abs_neg, abs_positive, positive_abs}
use Rattle.integers.proofs.Order.{zarith, mul_positive}
use Rattle.integers.proofs.Parts.{parts_add}
use Rattle.integers.specs.Sum.{◌^ℤ◌}
use Rattle.integers.proofs.Power.{pow_pos, pow_positive}
use Rattle.integers.proofs.Product.{entry_le_weight}
use Rattle.integers.proofs.Sum.{sum-none}
use Rattle.job.specs.Kind.{polynomial, rational, system, quotients, unused}
use Rattle.system.specs.System.{curve_entry, past_first, argument, numerator, denominator, no_denominator, coefficient, subtrahend, matrix, right_side}
use Rattle.recurrence.specs.Recurrence.{Solves}
use Rattle.recurrence.proofs.Equations.{solves_ext}
use Rattle.curve.specs.Curve.{numerator_value, denominator_value, RationalValue, PolynomialValue, KindValue}
use Rattle.curve.proofs.Horner.{horner, horner_small, numerator_horner, denominator_horner}
use Rattle.curve.proofs.Differences.{first_value, found, found_solves}
use Rattle.curve.proofs.Quotients.{quotients-value}
use Rattle.curve.proofs.Rows.{entry_first, entry_next, to_differences, of_differences, cut, cut_below, cut_end}

-- a rational curve of any order
pub rational-value : RationalValue
rational-value u x p q n unit some short =
    record {
      denominator_positive = positive;
      value = in_each;
      solution = top;
      solution_under = bottom;
      under_positive = abs_positive bottom_positive;
      solved = top_solves;
    }
  where
    small_x : 1 < n → 4 * nat_abs x ≤ u
    small_x h = omega (arith, short 0 some, entry_le_weight n (curve_entry x q 0) 1 h, ap nat_abs (entry_next x q 0))

    small_q : (i : ℕ) → i < n → 4 * nat_abs (past_first q i) ≤ u
    small_q i h =
        omega (arith, short i h, entry_le_weight n (curve_entry x q i) 0 some, ap nat_abs (entry_first x q i), abs_neg (past_first q i))

    above : (y : ℕ) (h : ℤ) → 0 < y → 2 * nat_abs h ≤ y → pos 0 <ℤ (pos y +ℤ h)
    above y h l k = omega (zarith, abs_parts h, parts_add (pos y) h)

    positive : pos 0 <ℤ denominator_value u x q n
    positive =
        rw (denominator_horner u x q n, pow_pos u n)
        (above (u ^ n) (horner x (pos u) (past_first q) n 0) (one-le-pow n u unit)
        (horner_small u x (past_first q) n small_x small_q n 0 (omega arith)))

    in_each : (N : ℕ → ℤ) (D : ℕ) → Solves n u D (curve_entry x q) p N → denominator_value u x q n *ℤ N 0 ≡ numerator_value u x p n *ℤ pos D
    in_each N D s =
        rw (denominator_horner u x q n, numerator_horner u x p n, ← cut_below n N 0 some)
        (first_value n (pos u) x p (past_first q) (pos D) (cut n N)
        (to_differences n u D x p q (cut n N) (cut_end n N) (solves_ext (cut_below n N) s)))

    -- a solution: the numerators N and the denominator D
    top : ℕ → ℤ
    top = found n (pos u) x p (past_first q)

    bottom : ℕ
    bottom = nat_abs (denominator_value u x q n *ℤ pos u ^ℤ n)

    bottom_positive : pos 0 <ℤ (denominator_value u x q n *ℤ pos u ^ℤ n)
    bottom_positive = mul_positive positive (pow_positive u n unit)

    top_solves : Solves n u bottom (curve_entry x q) p top
    top_solves =
        of_differences n u bottom x p q top (found_solves n (pos u) x p (past_first q)).ends
        (rw (positive_abs bottom_positive, denominator_horner u x q n) (found_solves n (pos u) x p (past_first q)))

pub no_denominator-value : (u : ℕ) (x : ℤ) (n : ℕ) → denominator_value u x no_denominator n ≡ pos u ^ℤ n
unfolding denominator_value
no_denominator-value u x n =
    rw (sum-none n (λ i. past_first no_denominator i *ℤ x ^ℤ i *ℤ pos u ^ℤ (n - suc i)) (λ i l. nothing i (x ^ℤ i) (pos u ^ℤ (n - suc i))), +ℤ_idr (pos u ^ℤ n))
  where
    nothing : (i : ℕ) (y z : ℤ) → past_first no_denominator i *ℤ y *ℤ z ≡ pos 0
    nothing zero y z = rw (zero-*ℤ y, zero-*ℤ z)
    nothing (suc i) y z = rw (zero-*ℤ y, zero-*ℤ z)

pub polynomial-value : PolynomialValue
polynomial-value u x p n unit some short = rw (no_denominator-value u x n) at (rational-value u x p no_denominator n unit some short)

pub kind-value : KindValue
unfolding matrix right_side
kind-value polynomial n u v e unit some short = rational-value u (argument v) (numerator v) no_denominator n unit some short
kind-value rational n u v e unit some short = rational-value u (argument v) (numerator v) (denominator n v) n unit some short
kind-value system n u v e unit some short = absurd (true≢false (sym e))
kind-value quotients n u v e unit some short = quotients-value u (coefficient v) (right_side quotients n v) (subtrahend v) n unit some short
kind-value unused n u v e unit some short = absurd (true≢false (sym e))
