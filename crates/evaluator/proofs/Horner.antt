-- Readings by Horner's rule: a reading of j steps is below r^j, so nothing leaves 64 bits. Cited by the
-- proofs of `readings_from`, `put_readings` and `readings`.
use mathlib.Core.Path.{◌≡◌, refl, ap, ap₂, ◌∙◌}
use mathlib.Core.List.{List, ◌∷◌}
use Prim.Native.Nat.{ℕ, zero, suc, ◌+◌, ◌*◌, ◌-◌, ◌^◌, ◌<◌, ◌≤◌}
use native.Mathlib.Nat.{pow-zero, pow-succ', pow-le-pow_right, mul-le-mul_left, mul-le-mul_right}
use native.Mathlib.Numerals.{add-one}
use native.Mathlib.Omega.{arith}
use lib.IntN.{ℤ, pos, nat_abs, ◌+ℤ◌, ◌*ℤ◌}
use lib.ListN.{replicate}
use lib.Pow.{pow_mono}
use mir.Syntax.{w8, w64}
use mir.Val.{SFits, to_z, of_z}
use Rattle.integers.proofs.Absolute.{abs-add, abs-mul}
use Rattle.integers.specs.Flat.{entry, list_from}
use Rattle.integers.proofs.Power.{pow-pow}
use Rattle.integers.proofs.Machine.{Machine, known, bounded, cast_is, fits-within, machine_read_is, read_i8, read_i64, machine_add, machine_fits, machine_eq}
use Rattle.job.specs.Header.{digit_bits, radix}
use Rattle.job.proofs.Limits.{radix_least, radix_most, few-digits}
use Rattle.job.specs.declared.Header.{Header}
use Rattle.recurrence.specs.Recurrence.{reading}
use Rattle.state.specs.State.{digits_of, PassesLimits}
use Rattle.state.specs.declared.State.{State}
use Rattle.evaluator.specs.Inner.{MayRead, MayReadRows}

-- the readings of n rows after 0 steps
pub readings-zero : (r : ℕ) (d : ℕ → ℕ → ℤ) (i n : ℕ) → replicate n (pos 0) ≡ list_from i n (reading r d 0)
unfolding reading list_from
readings-zero r d i zero = refl
readings-zero r d i (suc n) = ap (λ l. pos 0 ∷ l) (readings-zero r d (suc i) n)

-- ---- the rows of a state that passes its limits may be read

pub may_read_rows : {s : State} → PassesLimits s → MayReadRows s.header s.k s.digits
may_read_rows {s} p =
    record {
      limits = p.limits;
      bits = omega (arith, mul-le-mul_right (digit_bits s.header.code) p.steps, p.scaled.last_most);
      made = p.made;
    }

pub may_read : {h : Header} {k : ℕ} {ds : List ℤ} → MayReadRows h k ds → (i r : ℕ) → i < h.n → r ≡ radix h.code → MayRead ds i k r
may_read {h} {k} p i r l e =
    rw e
    (record {
      row = omega (arith, p.limits.order_most);
      steps = few-digits k h.code p.bits;
      radix_least = omega (arith, radix_least h p.limits);
      radix_most = radix_most h p.limits;
      room = rw (pow-pow 2 (digit_bits h.code) k) (pow_mono p.bits);
      digits = λ t m. omega (arith, p.made t i m l, p.limits.digit_most);
    })

-- ---- one turn

-- r a + b, where a is below R and b below r, is below r R
below_next : (r R a b y : ℕ) → a < R → b ≤ r - 1 → 1 ≤ r → y ≤ r * a + b → y < r * R
below_next r R a b y h k l m = omega (arith, mul-le-mul_left r h)

module _ {ds : List ℤ} {i k r : ℕ} (h : MayRead ds i k r) where
  abbrev Y : ℕ → ℤ
  Y j = reading r (digits_of ds) j i

  below : (j : ℕ) → j ≤ k → nat_abs (Y j) < r ^ j
  unfolding reading
  below zero l = rw (pow-zero r) (omega arith)
  below (suc j) l =
      rw (pow-succ' r j)
      (below_next r (r ^ j) (nat_abs (Y j)) (nat_abs (entry ds j i)) (nat_abs (pos r *ℤ Y j +ℤ entry ds j i)) (below j (omega arith)) (h.digits j l) h.radix_least
      (omega (arith, abs-add (pos r *ℤ Y j) (entry ds j i), abs-mul (pos r) (Y j))))

  -- r times the reading of fewer than k steps
  product_small : (j : ℕ) → j < k → nat_abs (pos r *ℤ Y j) ≤ 2 ^ 60
  product_small j l =
      omega (arith, abs-mul (pos r) (Y j), mul-le-mul_left r (below j (omega arith)), pow-succ' r j, pow-le-pow_right {n = r} h.radix_least {i = suc j} {j = k} l, h.room)

  pub radix-fits : SFits w64 (pos r)
  radix-fits = fits-within w64 (pos r) 16 h.radix_most tt

  -- `y` is the reading of j steps
  module _ (j : ℕ) (l : j < k) {y : ℤ} (ey : y ≡ Y j) where
    kept : to_z w64 (of_z w64 y) ≡ Y j
    kept =
        machine_read_is w64 y (Y j) (2 ^ 60) ey (omega (arith, below j (omega arith), pow-le-pow_right {n = r} h.radix_least {i = j} {j = k} (omega arith), h.room)) tt

    abbrev the_product : Machine (to_z w64 r *ℤ to_z w64 (of_z w64 y))
    the_product =
        known (to_z w64 r *ℤ to_z w64 (of_z w64 y)) (pos r *ℤ Y j) (2 ^ 60) (ap₂ (λ a b. a *ℤ b) (cast_is w64 r 16 h.radix_most tt) kept) (product_small j l)

    pub reading-product-fits : SFits w64 (to_z w64 r *ℤ to_z w64 (of_z w64 y))
    reading-product-fits = machine_fits the_product tt

    -- `x` is the i64 made of the next digit
    module _ (x : ℤ) (ex : x ≡ to_z w8 (of_z w8 (entry ds j i))) where
      digit-small : nat_abs (entry ds j i) ≤ 15
      digit-small = omega (arith, h.digits j l, h.radix_most)

      digit_is : x ≡ entry ds j i
      digit_is = ex ∙ machine_eq (read_i8 (bounded (entry ds j i) 15 digit-small)) tt refl

      abbrev the_sum : Machine (to_z w64 (of_z w64 (to_z w64 r *ℤ to_z w64 (of_z w64 y))) +ℤ to_z w64 (of_z w64 x))
      the_sum = machine_add (read_i64 the_product) (read_i64 (known x (entry ds j i) 15 digit_is digit-small))

      pub reading-sum-fits : SFits w64 (to_z w64 (of_z w64 (to_z w64 r *ℤ to_z w64 (of_z w64 y))) +ℤ to_z w64 (of_z w64 x))
      reading-sum-fits = machine_fits the_sum tt

      pub reading-next : to_z w64 (of_z w64 (to_z w64 (of_z w64 (to_z w64 r *ℤ to_z w64 (of_z w64 y))) +ℤ to_z w64 (of_z w64 x))) ≡ reading r (digits_of ds) (j + 1) i
      unfolding reading
      reading-next = machine_eq (read_i64 the_sum) tt (rw add-one refl)
