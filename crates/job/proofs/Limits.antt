-- The limits of a header are just what refusals 2, 14, 3, 4 and 5 leave, and what they give as plain numbers.
-- Cited wherever a proof needs a bound.
use mathlib.Core.Path.{◌≡◌, refl, sym, ap, ◌∙◌}
use mathlib.Core.Bool.{Bool, true, false, not}
use mathlib.Core.Logic.{◌↔◌, ◌⊎◌, inl, inr}
use Prim.Native.Nat.{ℕ, zero, suc, ◌+◌, ◌*◌, ◌-◌, ◌/◌, ◌^◌, ◌<◌, ◌≤◌}
use native.Mathlib.Nat.{div-lt_iff_lt-mul, mul-le-mul}
use native.Mathlib.Omega.{arith}
use borrow.Author.Tests.{lt-ltb, le-ltb, le-leb, leb-true, ltb-false, eqb-false, ne_eqb, not-false}
use lib.Dec.{ltb, leb, eqb}
use lib.Pow.{pow_mono, pow_pos, pow-add}
use Rattle.integers.proofs.Maximum.{le_or_lt}
use Rattle.integers.proofs.Power.{pow-pow}
use Rattle.job.specs.Refusal.{first_refusal, None, none, also}
use Rattle.job.proofs.Refusal.{accepted_exactly, neither, fails, both_fail}
use Rattle.job.specs.Header.{radix, digit_bits, unit, frame_code, trace_code, steps_out_of_range, unknown_kind, read_checks_knowing, header_checks_knowing, read_checks, trace_read_checks, trace_header_checks, Limits, LimitsExactly}
use Rattle.job.specs.Kind.{Kind, polynomial, rational, system, quotients, unused, kind_of, is_unused, count_of, most_numbers}
use Rattle.job.specs.Rules.{last_step, trace_steps, most_scale, scaled_steps_out_of_range, scale_out_of_range, ScaleLimits, scale_factor, inner_unit, bound_over, bound_under}
use Rattle.job.specs.declared.Header.{Header}

-- digits that 60 bits hold are at most 60
pub few-digits : (k c : ℕ) → k * (c + 1) ≤ 60 → k ≤ 60
few-digits k c g = omega arith

-- and an m past 60 is refused by 5 in every radix
pub many_digits : (h : Header) → 60 < h.m → steps_out_of_range h ≡ true
many_digits h l = rw (ne_eqb h.m 0 (λ e. omega arith)) (lt-ltb 60 ((h.m + 1) * digit_bits h.code) (omega arith))

-- ---- the table of kinds: a number past its end, as the code tests it

pub unused_is : (k : ℕ) → ltb 3 k ≡ is_unused (kind_of k)
unused_is zero = refl
unused_is (suc zero) = refl
unused_is (suc (suc zero)) = refl
unused_is (suc (suc (suc zero))) = refl
unused_is (suc (suc (suc (suc k)))) = lt-ltb 3 (suc (suc (suc (suc k)))) (omega arith)

pub other_kind : (k : ℕ) → (k ≡ 0 → ⊥) → (k ≡ 1 → ⊥) → (k ≡ 2 → ⊥) → (k ≡ 3 → ⊥) → kind_of k ≡ unused
other_kind zero a b c d = absurd (a refl)
other_kind (suc zero) a b c d = absurd (b refl)
other_kind (suc (suc zero)) a b c d = absurd (c refl)
other_kind (suc (suc (suc zero))) a b c d = absurd (d refl)
other_kind (suc (suc (suc (suc k)))) a b c d = refl

-- a kind and a radix code that are known are those of the tables
module _ (h : Header) (known : Bool) (codes : known ≡ true → h.code ≤ 3) where
  pub known_header : unknown_kind known h ≡ false → (h.kind ≤ 3) × (h.code ≤ 3)
  known_header e =
      let k = neither (is_unused (kind_of h.kind)) (not known) (rw e tt) in
      (ltb-false 3 h.kind (unused_is h.kind ∙ k.0), codes (not-false known k.1))

-- ---- `known` is the test of a radix code against the table's last
module _ (h : Header) (known : Bool) (codes : known ≡ leb h.code 3) where
  pub code_small : known ≡ true → h.code ≤ 3
  code_small t = leb-true _ _ (sym codes ∙ t)

  checks_limits : None (header_checks_knowing known h) → Limits h
  checks_limits (also t₂ (also t₁₄ (also t₃ (also t₄ (also t₅ none))))) =
      let k = known_header h known code_small (fails (unknown_kind known h) t₂) in
      let n = neither (ltb h.n 1) (ltb 16 h.n) t₁₄ in
      let p = neither (ltb h.p (radix h.code / 2)) (ltb (radix h.code - 1) h.p) t₃ in
      let f = neither (ltb h.f 4) (ltb 40 h.f) t₄ in
      let m = neither (eqb h.m 0) (ltb 60 ((h.m + 1) * digit_bits h.code)) t₅ in
      record {
        kind_most = k.0;
        code_most = k.1;
        order_least = ltb-false _ _ n.0;
        order_most = ltb-false _ _ n.1;
        digit_least = ltb-false _ _ p.0;
        digit_most = ltb-false _ _ p.1;
        fraction_least = ltb-false _ _ f.0;
        fraction_most = ltb-false _ _ f.1;
        steps_least = above h.m (eqb-false h.m 0 m.0);
        steps_most = ltb-false _ _ m.1;
      }
    where
      above : (m : ℕ) → (m ≡ 0 → ⊥) → 1 ≤ m
      above zero g = absurd (g refl)
      above (suc m) g = omega arith

  limits_checks : Limits h → None (header_checks_knowing known h)
  limits_checks l =
      also (both_fail _ _ (sym (unused_is h.kind) ∙ le-ltb 3 h.kind l.kind_most) (ap not (codes ∙ le-leb h.code 3 l.code_most)))
      (also (both_fail _ _ (le-ltb h.n 1 l.order_least) (le-ltb 16 h.n l.order_most))
      (also (both_fail _ _ (le-ltb h.p (radix h.code / 2) l.digit_least) (le-ltb (radix h.code - 1) h.p l.digit_most))
      (also (both_fail _ _ (le-ltb h.f 4 l.fraction_least) (le-ltb 40 h.f l.fraction_most))
      (also (both_fail _ _ (ne_eqb h.m 0 (λ e. omega (arith, l.steps_least))) (le-ltb 60 ((h.m + 1) * digit_bits h.code) l.steps_most)) none))))

  -- refusals 2, 14, 3, 4 and 5 all pass exactly when the limits hold
  limits_when : (first_refusal (header_checks_knowing known h) ≡ 0) ↔ Limits h
  limits_when =
      ((λ e. checks_limits ((accepted_exactly (header_checks_knowing known h) tt).0 e)), (λ l. (accepted_exactly (header_checks_knowing known h) tt).1 (limits_checks l)))

  -- a header that was read has an order of 1 to 16, and then 2 to 5 are enough
  read_limits_when : 1 ≤ h.n → h.n ≤ 16 → (first_refusal (read_checks_knowing known h) ≡ 0) ↔ Limits h
  read_limits_when a b = ((λ e. limits_when.0 (order e)), (λ l. un_order (limits_when.1 l)))
    where
      order : first_refusal (read_checks_knowing known h) ≡ 0 → first_refusal (header_checks_knowing known h) ≡ 0
      order e = simp (le-ltb h.n 1 a, le-ltb 16 h.n b) e

      un_order : first_refusal (header_checks_knowing known h) ≡ 0 → first_refusal (read_checks_knowing known h) ≡ 0
      un_order e = simp (le-ltb h.n 1 a, le-ltb 16 h.n b) at e

pub limits_exactly : LimitsExactly
limits_exactly h = limits_when h (frame_code h.code) refl

pub read_limits : (h : Header) → 1 ≤ h.n → h.n ≤ 16 → (first_refusal (read_checks h) ≡ 0) ↔ Limits h
read_limits h = read_limits_when h (frame_code h.code) refl

pub trace-limits : (h : Header) → (first_refusal (trace_header_checks h) ≡ 0) ↔ Limits h
trace-limits h = limits_when h (trace_code h.code) refl

pub trace_read_limits : (h : Header) → 1 ≤ h.n → h.n ≤ 16 → (first_refusal (trace_read_checks h) ≡ 0) ↔ Limits h
trace_read_limits h = read_limits_when h (trace_code h.code) refl

-- ---- what the limits give as plain numbers
module _ (h : Header) where
  module _ (l : Limits h) where
    pub order-within : (1 ≤ h.n) × (h.n ≤ 16)
    order-within = (l.order_least, l.order_most)

    pub radix_most : radix h.code ≤ 16
    radix_most = pow_mono {i = digit_bits h.code} {j = 4} (omega (arith, l.code_most))

    pub radix_least : 2 ≤ radix h.code
    radix_least = pow_mono {i = 1} {j = digit_bits h.code} (omega arith)

    pub digit_positive : 1 ≤ h.p
    digit_positive = omega (arith, l.digit_least, radix_least)

    -- the largest digit is at least half the radix, which is even,
    digit_half : radix h.code ≤ 2 * h.p
    digit_half =
        let e : radix h.code ≡ 2 ^ h.code * 2 = pow-add 2 h.code 1 in
        omega (arith, e, l.digit_least)

    -- so the room of a row's weight is not negative
    pub bound-room : bound_over * (radix h.code - 1) ≤ bound_under * h.p
    bound-room = omega (arith, digit_half, radix_most)

    pub digit-small : h.p ≤ 15
    digit-small = omega (arith, l.digit_most, radix_most)

    pub unit-most : unit h ≤ 2 ^ 40
    unit-most = pow_mono {i = h.f} {j = 40} l.fraction_most

    pub unit-least : 16 ≤ unit h
    unit-least = pow_mono {i = 4} {j = h.f} l.fraction_least

    pub steps-small : h.m ≤ 60
    steps-small = omega (arith, few-digits (h.m + 1) h.code l.steps_most)

-- ---- the limits of a scale

-- they are what is asked of a scale under 24
pub scale-limits : (h : Header) (s : ℕ) → (scale_out_of_range h s ≡ false) ↔ ScaleLimits h s
scale-limits h s = (
  (λ e.
      let n = neither (ltb (most_scale h.code) s) (scaled_steps_out_of_range h s) (rw e tt) in
      record { scale_most = ltb-false _ _ n.0; last_most = ltb-false _ _ n.1 }),
  (λ l. fails _ (both_fail _ _ (le-ltb (most_scale h.code) s l.scale_most) (le-ltb 60 (last_step h s * digit_bits h.code) l.last_most))),
)

-- a scale within its limit is at most 2, and r^s has at most 4 bits
pub most_scale-small : (code : ℕ) → most_scale code ≤ 2
most_scale-small zero = omega arith
most_scale-small (suc code) = omega arith

few_bits : (code s : ℕ) → code ≤ 3 → s ≤ most_scale code → s * digit_bits code ≤ 4
few_bits zero s l k = omega arith
few_bits (suc code) s l k = omega (arith, mul-le-mul k l)

-- r r^s is a power of 2 as well
pub factor_is : (code s : ℕ) → 2 ^ (digit_bits code * (s + 1)) ≡ radix code * radix code ^ s
factor_is code s =
    let e : digit_bits code * (s + 1) ≡ digit_bits code + s * digit_bits code = omega arith in
    rw (e, pow-pow 2 (digit_bits code) s) (pow-add 2 (digit_bits code) (s * digit_bits code))

module _ (h : Header) (s : ℕ) (k : ScaleLimits h s) where
  pub scale_small : s ≤ 2
  scale_small = omega (arith, k.scale_most, most_scale-small h.code)

  -- the steps of a job have room in the arrays of a state, in 60 bits, and in a trace
  pub last-small : last_step h s ≤ 60
  last-small = few-digits (last_step h s) h.code k.last_most

  pub last_in_trace : last_step h s ≤ trace_steps h
  last_in_trace = omega (arith, scale_small)

  module _ (l : Limits h) where
    pub last-least : 1 ≤ last_step h s
    last-least = omega (arith, l.steps_least)

    -- r^s is a power of 2, and so is the inner unit
    pub scale-bits : (2 ^ (s * digit_bits h.code) ≡ scale_factor h s) × (s * digit_bits h.code ≤ 4)
    scale-bits = (sym (pow-pow 2 (digit_bits h.code) s), few_bits h.code s l.code_most k.scale_most)

    pub inner_bits : (b : ℕ) → 2 ^ b ≡ scale_factor h s → b ≤ 4 → (2 ^ (h.f + b) ≡ inner_unit h s) × (4 ≤ h.f + b) × (h.f + b ≤ 44)
    inner_bits b e m = (pow-add 2 h.f b ∙ rw e, omega (arith, l.fraction_least), omega (arith, l.fraction_most))

    pub scale_factor-most : scale_factor h s ≤ 16
    scale_factor-most = rw (sym scale-bits.0) (pow_mono {i = s * digit_bits h.code} {j = 4} scale-bits.1)

    pub scale_factor-least : 1 ≤ scale_factor h s
    scale_factor-least = rw (sym scale-bits.0) (pow_pos (s * digit_bits h.code))

    pub inner_most : inner_unit h s ≤ 2 ^ 44
    inner_most = mul-le-mul (unit-most h l) scale_factor-most

    pub inner_least : 16 ≤ inner_unit h s
    inner_least = mul-le-mul (unit-least h l) scale_factor-least

-- ---- a test by a quotient: x / b < m is x < m b
pub ltb_quotient : (x b m : ℕ) → 0 < b → ltb (x / b) m ≡ ltb x (m * b)
ltb_quotient x b m h = by_case (le_or_lt m (x / b))
  where
    by_case : (m ≤ x / b) ⊎ (x / b < m) → ltb (x / b) m ≡ ltb x (m * b)
    by_case (inr l) = rw (lt-ltb (x / b) m l, lt-ltb x (m * b) ((div-lt_iff_lt-mul {k = b} {x = x} {y = m} h).0 l))
    by_case (inl l) = rw (le-ltb (x / b) m l, le-ltb x (m * b) (not_less (le_or_lt (m * b) x)))
      where
        not_less : (m * b ≤ x) ⊎ (x < m * b) → m * b ≤ x
        not_less (inl g) = g
        not_less (inr g) = absurd (omega (arith, (div-lt_iff_lt-mul {k = b} {x = x} {y = m} h).1 g))

pub radix_some : (code : ℕ) → 1 ≤ radix code
radix_some code = pow_pos (digit_bits code)

-- ---- how many numbers there are

pub count_most : (kind : Kind) (n : ℕ) → n ≤ 16 → count_of kind n ≤ most_numbers
count_most polynomial n h = omega arith
count_most rational n h = omega arith
count_most system n h = let more : n + 1 ≤ 17 = omega arith in omega (arith, mul-le-mul h more)
count_most quotients n h = omega arith
count_most unused n h = omega arith

pub count-least : (k n : ℕ) → k ≤ 3 → 1 ≤ n → 0 < count_of (kind_of k) n
count-least zero n l h = omega arith
count-least (suc zero) n l h = omega arith
count-least (suc (suc zero)) n l h = omega (arith, mul-le-mul h h)
count-least (suc (suc (suc zero))) n l h = omega arith
count-least (suc (suc (suc (suc k)))) n l h = absurd (omega arith)
