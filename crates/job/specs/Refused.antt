-- The refusals of the code in document 01's numbers: the number of each, and the row that is given with it.
use Rattle.std.specs.Prelude.{ℕ, Result, Ok, Err}
use Rattle.job.specs.declared.refusals.Refused.{Refused}
use Rattle.job.specs.declared.refusals.Refused.TheVariants.{TooShort, UnknownKind, DigitOutOfRange, FractionOutOfRange, StepsOutOfRange, WrongLength, FillBitSet, HeavyRow, TooManySteps, DigitBeyond, WrongCount, NumberTooLarge, OrderOutOfRange, ScaledSteps, Idle, NoStepLeft, NoBudget, TooLittleRoom, LimitBroken}

abbrev pub number_of : Refused → ℕ
number_of TooShort = 1
number_of UnknownKind = 2
number_of DigitOutOfRange = 3
number_of FractionOutOfRange = 4
number_of StepsOutOfRange = 5
number_of WrongLength = 6
number_of FillBitSet = 7
number_of (HeavyRow row) = 8
number_of TooManySteps = 10
number_of DigitBeyond = 11
number_of WrongCount = 12
number_of NumberTooLarge = 13
number_of OrderOutOfRange = 14
number_of ScaledSteps = 15
number_of Idle = 20
number_of NoStepLeft = 21
number_of NoBudget = 22
number_of TooLittleRoom = 23
number_of LimitBroken = 24

-- the row from 1 for 8, and 0 for any other
abbrev pub row_of : Refused → ℕ
row_of (HeavyRow row) = row
row_of _ = 0

-- the number that a call answers, 0 where it is not refused, and the row that it answers
abbrev pub refusal_of : {A : Type 0} → Result A Refused → ℕ
refusal_of (Ok _) = 0
refusal_of (Err e) = number_of e

abbrev pub refused_row : {A : Type 0} → Result A Refused → ℕ
refused_row (Ok _) = 0
refused_row (Err e) = row_of e

-- both together
pub record Verdict : Type 0 where
  pub refusal : ℕ
  pub row : ℕ

abbrev pub verdict_of : {A : Type 0} → Result A Refused → Verdict
verdict_of r = record { refusal = refusal_of r; row = refused_row r }

-- the verdict of a refusal; and that of a number with which no row is given, 0 where there is no refusal
abbrev pub verdict_by : Refused → Verdict
verdict_by e = record { refusal = number_of e; row = row_of e }

abbrev pub without_row : ℕ → Verdict
without_row c = record { refusal = c; row = 0 }
