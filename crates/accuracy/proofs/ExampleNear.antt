-- `near`, `digit_count` and `curve` of demand 3 on case A with an x of 3: from the statement alone, how
-- near two of five digits come to row 1's exact value, and all five, and what that value is.
use mathlib.Core.Path.{◌≡◌, refl}
use mathlib.Core.Bool.{true}
use mathlib.Core.List.{List}
use Prim.Native.Nat.{ℕ, ◌*◌, ◌<◌, ◌≤◌}
use native.Mathlib.Omega.{arith}
use lib.IntN.{ℤ, pos, nat_abs, ◌-ℤ◌, ◌*ℤ◌}
use lib.Signed.{◌<ℤ◌}
use Rattle.integers.specs.Sum.{sum}
use Rattle.bitfields.specs.Layout.{field, number, bits, values_from}
use Rattle.bitfields.specs.Twos.{decode}
use Rattle.curve.specs.Curve.{numerator_value, denominator_value, has_value}
use Rattle.system.specs.System.{right_side}
use Rattle.scale.specs.Scale.{every}
use Rattle.accuracy.specs.Accuracy.{Call, Accurate, ExactValues, kind, Y}
use Rattle.evaluator.proofs.ExamplePastOrder.{frame_A}
use Rattle.accuracy.proofs.ExampleA.{calls_A, values_A, exact_A}
use Rattle.accuracy.proofs.ExampleDigits.{steps_A, spelt_A}

-- it is a curve
pub polynomial_A : has_value (kind frame_A) ≡ true
unfolding frame_A field number bits
polynomial_A = refl

module _ (holds : (calls : List Call) → Accurate frame_A calls) where
  -- row 1's value is 9/32, and the first two of its five digits spell a Y with |9 × 4 - 32 × Y| ≤ 32: the
  -- scale is 0, and r^s is 1
  pub near_A : nat_abs (pos 9 *ℤ pos 4 -ℤ pos 32 *ℤ Y frame_A calls_A 2 0 *ℤ pos 1) ≤ 32
  unfolding frame_A values_A field number bits values_from decode right_side every
  near_A =
      omega (arith, (holds calls_A).near 2 (omega (arith, steps_A holds)) values_A 32 (omega (arith, steps_A holds)) exact_A 0 (omega arith))

  -- this Y is 1: |9 × 4 - 32 × 1| ≤ 32
  pub distance_A : nat_abs (pos 9 *ℤ pos 4 -ℤ pos 32 *ℤ pos 1 *ℤ pos 1) ≤ 32
  distance_A = rw (spelt_A holds).0 at near_A

  -- m is 4: the last reading 9 is nearer than 1/16 to 9/32, as 16 × |9 × 32 - 32 × 9 × 1| < 32 × 32
  pub count_A : 16 * nat_abs (pos 9 *ℤ pos 32 -ℤ pos 32 *ℤ pos 9 *ℤ pos 1) < 1024
  unfolding frame_A values_A field number bits values_from decode right_side every
  count_A = rw (spelt_A holds).1 at ((holds calls_A).digit_count (steps_A holds) values_A 32 (omega (arith, steps_A holds)) exact_A 0 (omega arith))

  -- row 1's exact value is 72/256, in every solution
  pub curve_A : (N : ℕ → ℤ) (D : ℕ) → ExactValues frame_A N D → pos 256 *ℤ N 0 ≡ pos 72 *ℤ pos D
  unfolding frame_A field number bits values_from decode numerator_value denominator_value sum
  curve_A N D exact = ((holds calls_A).curve polynomial_A).value N D exact

  -- the denominator 256 is above 0
  pub fraction_A : pos 0 <ℤ pos 256
  unfolding frame_A field number bits values_from decode denominator_value sum
  fraction_A = ((holds calls_A).curve polynomial_A).denominator_positive

  -- and there is such a solution: one with a D above 0, in which 256 N is 72 D
  abbrev found_A : ℕ
  found_A = ((holds calls_A).curve polynomial_A).solution_under

  pub some_A : (0 < found_A) × (pos 256 *ℤ ((holds calls_A).curve polynomial_A).solution 0 ≡ pos 72 *ℤ pos found_A)
  some_A = (((holds calls_A).curve polynomial_A).under_positive, curve_A ((holds calls_A).curve polynomial_A).solution found_A ((holds calls_A).curve polynomial_A).solved)
