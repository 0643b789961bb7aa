-- Light enough and a residual within its bound as one comparison each: with the
-- largest weight, and with the largest residual. Cited by the proofs of `largest_light` and `residual_most`,
-- by `Searches`, and by callers that need a bound.
use mathlib.Core.Path.{◌≡◌, sym, ap, ◌∙◌}
use mathlib.Core.Bool.{not, not-not}
use mathlib.Core.Logic.{◌⊎◌, inl, inr}
use Prim.Native.Nat.{ℕ, ◌*◌, ◌-◌, ◌/◌, ◌^◌, ◌<◌, ◌≤◌}
use native.Mathlib.Nat.{mul_comm, div-div-eq-div-mul, div-le_of_le-mul, mul-le-mul, mul-le-mul_right, mul-pos}
use native.Mathlib.Omega.{arith}
use borrow.Author.Tests.{lt-ltb, le-ltb, le-leb, lt-leb}
use lib.Dec.{leb, ltb}
use lib.IntN.{ℤ, nat_abs}
use Rattle.integers.proofs.Maximum.{le_or_lt}
use Rattle.job.specs.Header.{radix, unit, Limits}
use Rattle.job.proofs.Limits.{radix_least, radix_most, digit_positive, bound-room, digit-small, unit-most, ltb_quotient}
use Rattle.system.specs.Rows.{weight_factor, weight_room, light_enough, residual_kept}
use Rattle.system.specs.Inner.{largest_light, residual_most}
use Rattle.job.specs.Rules.{inner_unit, bound_over, bound_under}
use Rattle.job.specs.declared.Header.{Header}

-- ---- the numbers on the way to the largest weight

-- how large a radix r, a largest digit p and a unit u can be
pub record Sizes (r p u : ℕ) : Type 0 where
  pub r_least : 2 ≤ r
  pub r_most : r ≤ 16
  pub p_least : 1 ≤ p
  pub p_most : p ≤ 15
  pub r_p : bound_over * (r - 1) ≤ bound_under * p
  pub u_most : u ≤ 2 ^ 40

pub sizes : {h : Header} → Limits h → Sizes (radix h.code) h.p (unit h)
sizes {h} l =
    record {
      r_least = radix_least h l;
      r_most = radix_most h l;
      p_least = digit_positive h l;
      p_most = digit-small h l;
      r_p = bound-room h l;
      u_most = unit-most h l;
    }

module _ (r p u : ℕ) (s : Sizes r p u) where
  pub dividend_most : u * (bound_under * p - bound_over * (r - 1)) ≤ 2 ^ 40 * 480
  dividend_most = let l : bound_under * p - bound_over * (r - 1) ≤ 480 = omega arith in mul-le-mul s.u_most l

  pub divisor-least : 0 < bound_under * r * p
  divisor-least = mul-pos {m = bound_under * r} {n = p} (omega arith) (omega arith)

  -- the three factors of the divisor, taken one by one
  pub one_by_one : u * (bound_under * p - bound_over * (r - 1)) / bound_under / r / p ≡ u * (bound_under * p - bound_over * (r - 1)) / (bound_under * r * p)
  one_by_one =
      let a : ℕ = u * (bound_under * p - bound_over * (r - 1)) in
      rw (div-div-eq-div-mul a bound_under r) (div-div-eq-div-mul a (bound_under * r) p)

  -- the divisor is at least the factor of u
  pub quotient_most : u * (bound_under * p - bound_over * (r - 1)) / (bound_under * r * p) ≤ 2 ^ 40
  quotient_most =
      let l : bound_under * p - bound_over * (r - 1) ≤ bound_under * r * p = omega (arith, mul-le-mul_right p s.r_least) in
      div-le_of_le-mul (bound_under * r * p) {m = u * (bound_under * p - bound_over * (r - 1))} {n = 2 ^ 40} (omega (arith, mul-le-mul s.u_most l))

-- ---- the two tests

leb_is : (a b : ℕ) → leb a b ≡ not (ltb b a)
leb_is a b = by_order (le_or_lt a b)
  where
    by_order : (a ≤ b) ⊎ (b < a) → leb a b ≡ not (ltb b a)
    by_order (inl l) = rw (le-leb a b l, le-ltb b a l)
    by_order (inr l) = rw (lt-leb a b l, lt-ltb b a l)

leb_quotient : (d S a : ℕ) → 0 < d → leb (d * S) a ≡ leb S (a / d)
leb_quotient d S a h = leb_is (d * S) a ∙ rw (mul_comm d S, ← ltb_quotient a d S h) (sym (leb_is S (a / d)))

pub not_leb : (a b : ℕ) → not (leb a b) ≡ ltb b a
not_leb a b = ap not (leb_is a b) ∙ not-not (ltb b a)

-- light enough is at most the largest weight that is
pub light_is : {h : Header} → Limits h → (S : ℕ) → light_enough h S ≡ leb S (largest_light h)
light_is {h} l S = leb_quotient (weight_factor h) S (weight_room h) (divisor-least (radix h.code) h.p (unit h) (sizes l))

-- within the bound is at most the largest residual that is
pub residual_is : (h : Header) (s : ℕ) (z : ℤ) → residual_kept h s z ≡ leb (nat_abs z) (residual_most h s)
residual_is h s z = leb_quotient bound_under (nat_abs z) (bound_over * inner_unit h s) (omega arith)
