-- What a job that can make a step lets the code do: sum its rows, place its columns, and choose a digit in
-- each row. Cited by the proofs of the functions that make several steps.
use mathlib.Core.Path.{◌≡◌, refl}
use mathlib.Core.List.{List}
use Prim.Native.Nat.{ℕ, zero, suc, ◌*◌, ◌/◌, ◌^◌, ◌<◌, ◌≤◌}
use native.Mathlib.Nat.{mul-le-mul}
use native.Mathlib.Omega.{arith}
use lib.IntN.{ℤ, pos, nat_abs}
use lib.Pow.{pow_mono}
use Rattle.integers.specs.Flat.{at, entry}
use Rattle.integers.specs.Sum.{weight}
use Rattle.integers.proofs.Product.{abs-dot, dot-scale, entry_le_weight}
use Rattle.job.specs.Rules.{bound_over, bound_under}
use Rattle.job.specs.declared.Header.{Header}
use Rattle.job.specs.Header.{Limits, digit_bits, radix}
use Rattle.recurrence.specs.Recurrence.{shifted, LightRows, WithinBounds}
use Rattle.recurrence.proofs.Theorems.{bound}
use Rattle.spans.specs.Inner.{row_dot, Summed, MaySumRows}
use Rattle.choice.specs.Inner.{MayChoose}
use Rattle.choice.specs.declared.units.Units.{Units}
use Rattle.signs.specs.Inner.{MayTabulate}
use Rattle.stepping.specs.Steps.{finer}
use Rattle.choice.proofs.ShiftedResidual.{shifted_together}

-- digits up to 1 are those of radix 2
pub radix_two : {h : Header} → Limits h → h.p ≡ 1 → 2 ≡ radix h.code
radix_two {h} l e = two h.code (rw e at l.digit_least)
  where
    two : (code : ℕ) → radix code / 2 ≤ 1 → 2 ≡ radix code
    two zero d = refl
    two (suc c) d = omega (arith, d, pow_mono {i = 2} {j = digit_bits (suc c)} (omega arith))

-- document 01's limits on a job and on its numbers: light rows, residuals within their bound and digits
-- within p. u is the unit of the residuals, and c of these make one unit of the matrix.
pub record KeepsLimits (n r c p u : ℕ) (g z d : List ℤ) : Type 0 where
  pub order : n ≤ 16
  pub radix : (2 ≤ r) × (r ≤ 16)
  pub factor : c ≤ 16
  pub largest : p ≤ 15
  pub unit-most : u ≤ 2 ^ 44
  pub weights : (i : ℕ) → i < n → weight n (entry g i) ≤ 2 ^ 40
  pub light : LightRows n r p u bound_over bound_under (finer c (entry g))
  pub within : WithinBounds n p u bound_over bound_under (at z) (at d)

module _ {n r c p u : ℕ} {g z d : List ℤ} (h : KeepsLimits n r c p u g z d) where
  pub may-sum-rows : MaySumRows n g d
  may-sum-rows i l =
      record {
        row = omega (arith, h.order);
        order = h.order;
        light = h.weights i l;
        digits = λ j m. omega (arith, h.within.d_small j m, h.largest);
      }

  pub may_tabulate : MayTabulate n g
  may_tabulate i j l m = omega (arith, entry_le_weight n (entry g i) j m, h.weights i l)

  -- s has the rows' sums
  module _ {s : List ℤ} (sums : Summed n g d s) where
    sum-small : (i : ℕ) → i < n → nat_abs (at s i) ≤ 2 ^ 48
    sum-small i l = rw (sums.rows i l) (omega (arith, abs-dot n (entry g i) (at d) 15 (may-sum-rows i l).digits, h.weights i l))

    pub may_choose_from : (w : Units) → w.r ≡ r → w.q ≡ r * c → w.p ≡ p → 2 ^ w.f ≡ u → MayChoose n w z s
    unfolding shifted
    may_choose_from w er eq ep eu =
        record {
          order = h.order;
          rows = λ i l.
              record {
                radix = rw er h.radix.1;
                units = rw eq (mul-le-mul h.radix.1 h.factor);
                largest = rw ep h.largest;
                residual = omega (arith, h.within.z_small i l, h.unit-most);
                sum = sum-small i l;
                bound = rw (er, eq, ep, eu, sums.rows i l, shifted_together (at z i) (row_dot n g d i) r c, ← dot-scale n (pos c) (entry g i) (at d)) (bound h.light h.within i l);
              };
        }
