-- What machine arithmetic on signed integers comes to, as clean numbers. In a need each signed value stands
-- as a tower of `to_z w (of_z w x)`: its bits, read again. `Machine x` holds the clean value of such an x, a
-- numeral that bounds it, and a test that computes, and `search machs` finds it.
--
--   a need of r * (z + g * d) at i64, where `Within` bounds on r, z, g and d are in scope:
--                      machine_fits (search machs depth 12) tt
--   a result:          machine_eq (search machs depth 12) tt (the clean equation)
--   a branch's test:   machine_test c.if-a-b.true (search machs depth 12) tt
--
-- A bound has to be a numeral, or `tt` does not compute: weaken a bound with a variable in it first. What a
-- call gave, a loop's variable or an element of a list goes in by a `let` with `known` or `bounded`. Every
-- rule is over the width: i64 and i8 alike.
use mathlib.Core.Path.{◌≡◌, refl, sym, ap, ap₂, ◌∙◌, subst}
use mathlib.Core.Bool.{Bool, true}
use Prim.Native.Nat.{ℕ, suc, ◌+◌, ◌*◌, ◌<◌, ◌≤◌, ◌^◌, ◌/◌, ◌%◌}
use native.Mathlib.Nat.{le_refl, div-le_self, mod-le}
use native.Mathlib.Omega.{arith}
use lib.Dec.{T, ltb, ltb→lt, leb, leb→le}
use lib.IntN.{ℤ, pos, negsuc, neg_ℤ, nat_abs, ◌+ℤ◌, ◌*ℤ◌}
use lib.Signed.{mag, quot_z, rem_z, shr_z, lt_z, le_z}
use mir.Syntax.{Width, w8, w64}
use mir.Val.{SFits, hbits, to_z, of_z}
use mir.Facts.{to_z-of_z, to_z_pos}
use Rattle.integers.specs.Sum.{Within}
use Rattle.integers.proofs.Absolute.{abs_neg, abs-add_le, abs-mul_le, abs-neg_le}
use Rattle.integers.proofs.Normal.{both, both_left, both_right}

-- ---- what fits a width

mag_le_abs : (z : ℤ) → mag z ≤ nat_abs z
mag_le_abs (pos n) = le_refl n
mag_le_abs (negsuc n) = omega arith

pub fits-abs : (w : Width) (z : ℤ) → nat_abs z < 2 ^ hbits w → SFits w z
fits-abs w z h = record { sfits = omega (arith, mag_le_abs z) }

-- a bound k leaves every such number in the width
abbrev pub in_width : Width → ℕ → Bool
in_width w k = ltb k (2 ^ hbits w)

pub fits-within : (w : Width) (z : ℤ) (k : ℕ) → nat_abs z ≤ k → T (in_width w k) → SFits w z
fits-within w z k h t = fits-abs w z (omega (arith, ltb→lt k (2 ^ hbits w) t))

-- what an i64 or an i8 holds, stored and read again, is itself
pub i64_kept : (z : ℤ) → mag z < 2 ^ 63 → to_z w64 (of_z w64 z) ≡ z
i64_kept z h = to_z-of_z {w = w64} {z = z} (record { sfits = h })

pub i8_kept : (z : ℤ) → mag z < 2 ^ 7 → to_z w8 (of_z w8 z) ≡ z
i8_kept z h = to_z-of_z {w = w8} {z = z} (record { sfits = h })

-- ---- clean values

-- x is `clean`, of absolute value at most `top`, where the test `good` passes
pub record Machine (x : ℤ) : Type 0 where
  pub clean : ℤ
  pub top : ℕ
  pub below : nat_abs clean ≤ top
  pub good : Bool
  pub is : T good → x ≡ clean

-- a number that is bounded
abbrev pub bounded : (z : ℤ) (k : ℕ) → nat_abs z ≤ k → Machine z
bounded z k h = record { clean = z; top = k; below = h; good = true; is = λ _. refl }

abbrev pub within : {z : ℤ} {k : ℕ} → Within z k → Machine z
within {z} {k} h = bounded z k h.abs

-- a number x that is known to be z
abbrev pub known : (x z : ℤ) (k : ℕ) → x ≡ z → nat_abs z ≤ k → Machine x
known x z k e h = record { clean = z; top = k; below = h; good = true; is = λ _. e }

abbrev pub machine_pos : (k : ℕ) → Machine (pos k)
machine_pos k = bounded (pos k) k (le_refl k)

abbrev pub machine_negsuc : (k : ℕ) → Machine (negsuc k)
machine_negsuc k = bounded (negsuc k) (suc k) (le_refl (suc k))

abbrev pub machine_neg : {a : ℤ} → Machine a → Machine (neg_ℤ a)
machine_neg r =
    record { clean = neg_ℤ r.clean; top = r.top; below = abs-neg_le r.clean r.top r.below; good = r.good; is = λ t. ap neg_ℤ (r.is t) }

-- an operation on two numbers of which both are clean
pub both_are : {A : Type 0} (f : ℤ → ℤ → A) {a b : ℤ} (r : Machine a) (s : Machine b) → T (both r.good s.good) → f a b ≡ f r.clean s.clean
both_are f r s t = ap₂ f (r.is (both_left r.good s.good t)) (s.is (both_right r.good s.good t))

abbrev pub machine_add : {a b : ℤ} → Machine a → Machine b → Machine (a +ℤ b)
machine_add r s =
    record {
      clean = r.clean +ℤ s.clean;
      top = r.top + s.top;
      below = abs-add_le r.clean s.clean r.top s.top r.below s.below;
      good = both r.good s.good;
      is = both_are (λ x y. x +ℤ y) r s;
    }

abbrev pub machine_mul : {a b : ℤ} → Machine a → Machine b → Machine (a *ℤ b)
machine_mul r s =
    record {
      clean = r.clean *ℤ s.clean;
      top = r.top * s.top;
      below = abs-mul_le r.clean s.clean r.top s.top r.below s.below;
      good = both r.good s.good;
      is = both_are (λ x y. x *ℤ y) r s;
    }

-- division and remainder cut toward zero, so neither grows
pub abs_quot : (a b : ℤ) → nat_abs (quot_z a b) ≤ nat_abs a
abs_quot (pos a) (pos b) = div-le_self a b
abs_quot (pos a) (negsuc b) = omega (arith, abs_neg (pos (a / suc b)), div-le_self a (suc b))
abs_quot (negsuc a) (pos b) = omega (arith, abs_neg (pos (suc a / b)), div-le_self (suc a) b)
abs_quot (negsuc a) (negsuc b) = div-le_self (suc a) (suc b)

pub abs_rem : (a b : ℤ) → nat_abs (rem_z a b) ≤ nat_abs a
abs_rem (pos a) b = mod-le a (nat_abs b)
abs_rem (negsuc a) b = omega (arith, abs_neg (pos (suc a % nat_abs b)), mod-le (suc a) (nat_abs b))

pub abs_quot_le : (a b : ℤ) (m : ℕ) → nat_abs a ≤ m → nat_abs (quot_z a b) ≤ m
abs_quot_le a b m h = omega (arith, abs_quot a b)

pub abs_rem_le : (a b : ℤ) (m : ℕ) → nat_abs a ≤ m → nat_abs (rem_z a b) ≤ m
abs_rem_le a b m h = omega (arith, abs_rem a b)

abbrev pub machine_quot : {a b : ℤ} → Machine a → Machine b → Machine (quot_z a b)
machine_quot r s =
    record {
      clean = quot_z r.clean s.clean;
      top = r.top;
      below = abs_quot_le r.clean s.clean r.top r.below;
      good = both r.good s.good;
      is = both_are (λ x y. quot_z x y) r s;
    }

abbrev pub machine_rem : {a b : ℤ} → Machine a → Machine b → Machine (rem_z a b)
machine_rem r s =
    record {
      clean = rem_z r.clean s.clean;
      top = r.top;
      below = abs_rem_le r.clean s.clean r.top r.below;
      good = both r.good s.good;
      is = both_are (λ x y. rem_z x y) r s;
    }

-- nor does what a shift to the right gives, which cuts downward
pub abs_shr : (a : ℤ) (b m : ℕ) → nat_abs a ≤ m → nat_abs (shr_z a b) ≤ m
abs_shr (pos a) b m h = omega (arith, div-le_self a b)
abs_shr (negsuc a) b m h = omega (arith, div-le_self a b)

abbrev pub machine_shr : (b : ℕ) {a : ℤ} → Machine a → Machine (shr_z a b)
machine_shr b r =
    record {
      clean = shr_z r.clean b;
      top = r.top;
      below = abs_shr r.clean b r.top r.below;
      good = r.good;
      is = λ t. ap (λ (x : ℤ). shr_z x b) (r.is t);
    }

-- a value stored and read again
pub machine_read_is : (w : Width) (x z : ℤ) (k : ℕ) → x ≡ z → nat_abs z ≤ k → T (in_width w k) → to_z w (of_z w x) ≡ z
machine_read_is w x z k e h t = ap (λ (y : ℤ). to_z w (of_z w y)) e ∙ to_z-of_z (fits-within w z k h t)

abbrev pub machine_read : (w : Width) {x : ℤ} → Machine x → Machine (to_z w (of_z w x))
machine_read w {x} r =
    record {
      clean = r.clean;
      top = r.top;
      below = r.below;
      good = both r.good (in_width w r.top);
      is = λ t. machine_read_is w x r.clean r.top (r.is (both_left r.good (in_width w r.top) t)) r.below (both_right r.good (in_width w r.top) t);
    }

abbrev pub read_i64 : {x : ℤ} → Machine x → Machine (to_z w64 (of_z w64 x))
read_i64 r = machine_read w64 r

abbrev pub read_i8 : {x : ℤ} → Machine x → Machine (to_z w8 (of_z w8 x))
read_i8 r = machine_read w8 r

-- an unsigned number n, cast to a signed one
pub cast_is : (w : Width) (n k : ℕ) → n ≤ k → T (in_width w k) → to_z w n ≡ pos n
cast_is w n k h t = to_z_pos w {n = n} (omega (arith, ltb→lt k (2 ^ hbits w) t))

abbrev pub cast : (w : Width) (n k : ℕ) → n ≤ k → Machine (to_z w n)
cast w n k h = record { clean = pos n; top = k; below = h; good = in_width w k; is = λ t. cast_is w n k h t }

-- ---- tests

pub record Test (b : Bool) : Type 0 where
  pub clean : Bool
  pub good : Bool
  pub is : T good → b ≡ clean

abbrev pub test_lt : {a b : ℤ} → Machine a → Machine b → Test (lt_z a b)
test_lt r s = record { clean = lt_z r.clean s.clean; good = both r.good s.good; is = both_are (λ x y. lt_z x y) r s }

abbrev pub test_le : {a b : ℤ} → Machine a → Machine b → Test (le_z a b)
test_le r s = record { clean = le_z r.clean s.clean; good = both r.good s.good; is = both_are (λ x y. le_z x y) r s }

pub ruleset machs =
    (read_i64, read_i8, machine_add, machine_mul, machine_neg, machine_quot, machine_rem, machine_shr, test_lt, test_le, machine_pos, machine_negsuc, within, bounded)

-- ---- what it is used for

-- a need: x fits
pub machine_fits : {w : Width} {x : ℤ} (r : Machine x) → T (both r.good (in_width w r.top)) → SFits w x
machine_fits {w} {x} r t =
    subst (λ (y : ℤ). SFits w y) (sym (r.is (both_left r.good (in_width w r.top) t)))
    (fits-within w r.clean r.top r.below (both_right r.good (in_width w r.top) t))

-- a result
pub machine_eq : {x y : ℤ} (r : Machine x) → T r.good → r.clean ≡ y → x ≡ y
machine_eq r t e = r.is t ∙ e

-- a bound
pub machine_within : {x : ℤ} {B : ℕ} (r : Machine x) → T (both r.good (leb r.top B)) → Within x B
machine_within {x} {B} r t =
    record {
      abs = subst (λ (y : ℤ). nat_abs y ≤ B) (sym (r.is (both_left r.good (leb r.top B) t)))
          (omega (arith, r.below, leb→le r.top B (both_right r.good (leb r.top B) t)));
    }

-- a branch's test, of the clean numbers
pub machine_test : {b t : Bool} → b ≡ t → (r : Test b) → T r.good → r.clean ≡ t
machine_test e r h = sym (r.is h) ∙ e
