-- Laws of what a call answers by a `Result`: no refusal has the number 0, so a result is refused exactly where
-- its number is not 0.
use mathlib.Core.Path.{◌≡◌, refl, sym}
use mathlib.Core.Bool.{false}
use mathlib.Core.List.{List}
use Prim.Native.Nat.{ℕ, ◌<◌, ◌≤◌}
use native.Mathlib.Omega.{arith}
use borrow.Author.Tests.{lt-ltb, ltb-false}
use lib.Dec.{ltb}
use Rattle.std.specs.Prelude.{Result, Ok, Err, is_err}
use Rattle.job.specs.Refusal.{Check, first_refusal}
use Rattle.job.specs.Refused.{number_of, row_of, refusal_of}
use Rattle.job.specs.declared.refusals.Refused.{Refused}
use Rattle.job.specs.declared.refusals.Refused.TheVariants.{TooShort, UnknownKind, DigitOutOfRange, FractionOutOfRange, StepsOutOfRange, WrongLength, FillBitSet, HeavyRow, TooManySteps, DigitBeyond, WrongCount, NumberTooLarge, OrderOutOfRange, ScaledSteps, Idle, NoStepLeft, NoBudget, TooLittleRoom, LimitBroken}

pub number_positive : (e : Refused) → 0 < number_of e
number_positive TooShort = omega arith
number_positive UnknownKind = omega arith
number_positive DigitOutOfRange = omega arith
number_positive FractionOutOfRange = omega arith
number_positive StepsOutOfRange = omega arith
number_positive WrongLength = omega arith
number_positive FillBitSet = omega arith
number_positive (HeavyRow row) = omega arith
number_positive TooManySteps = omega arith
number_positive DigitBeyond = omega arith
number_positive WrongCount = omega arith
number_positive NumberTooLarge = omega arith
number_positive OrderOutOfRange = omega arith
number_positive ScaledSteps = omega arith
number_positive Idle = omega arith
number_positive NoStepLeft = omega arith
number_positive NoBudget = omega arith
number_positive TooLittleRoom = omega arith
number_positive LimitBroken = omega arith

-- no row goes with any number but 8
pub rowless_number : (e : Refused) → (number_of e ≡ 8 → ⊥) → row_of e ≡ 0
rowless_number TooShort n = refl
rowless_number UnknownKind n = refl
rowless_number DigitOutOfRange n = refl
rowless_number FractionOutOfRange n = refl
rowless_number StepsOutOfRange n = refl
rowless_number WrongLength n = refl
rowless_number FillBitSet n = refl
rowless_number (HeavyRow row) n = absurd (n refl)
rowless_number TooManySteps n = refl
rowless_number DigitBeyond n = refl
rowless_number WrongCount n = refl
rowless_number NumberTooLarge n = refl
rowless_number OrderOutOfRange n = refl
rowless_number ScaledSteps n = refl
rowless_number Idle n = refl
rowless_number NoStepLeft n = refl
rowless_number NoBudget n = refl
rowless_number TooLittleRoom n = refl
rowless_number LimitBroken n = refl

-- a result is refused exactly where its number is not 0
pub refused_test : {A : Type 0} (r : Result A Refused) → is_err r ≡ ltb 0 (refusal_of r)
refused_test (Ok _) = refl
refused_test (Err e) = sym (lt-ltb 0 (number_of e) (number_positive e))

-- an error is a refusal by its number
pub error_refuses : {A : Type 0} {r : Result A Refused} {e : Refused} {c : ℕ} → r ≡ Err e → refusal_of r ≡ c → 0 < c
error_refuses {e = e} p q = rw (← q, p) (number_positive e)

-- no check holds
pub not_refused : (cs : List Check) → ltb 0 (first_refusal cs) ≡ false → first_refusal cs ≡ 0
not_refused cs e = let l : first_refusal cs ≤ 0 = ltb-false 0 (first_refusal cs) e in omega arith
