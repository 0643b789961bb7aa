-- The numbers of a job as they are sent, and where among them the entries and the right-hand sides stand.
-- Cited by the proofs of `place_matrix`, `right_sides` and what they call.
use mathlib.Core.Path.{◌≡◌, refl, sym, ap, ◌∙◌}
use mathlib.Core.Bool.{cond}
use mathlib.Core.List.{List}
use Prim.Native.Nat.{ℕ, zero, suc, ◌+◌, ◌*◌, ◌<◌, ◌≤◌, ◌^◌}
use native.Mathlib.Nat.{mul-le-mul, mul-le-mul_right}
use native.Mathlib.Omega.{arith}
use lib.Dec.{eqb}
use lib.IntN.{ℤ, pos, neg_ℤ, ◌-ℤ◌, +ℤ_idl}
use lib.Signed.{mag}
use mir.Syntax.{w64}
use mir.Val.{to_z, of_z}
use mir.Facts.{to_z-of_z}
use Rattle.integers.specs.Sum.{Within}
use Rattle.integers.specs.Flat.{flat_matrix}
use Rattle.integers.proofs.Machine.{machs, machine_eq}
use Rattle.std.specs.Prelude.{Option, Some}
use Rattle.job.specs.declared.kinds.Kind.{Kind as KindOfCode}
use Rattle.job.specs.Kinds.{kind_named, kind_said}
use Rattle.job.specs.Kind.{Kind, polynomial, rational, system, quotients, kind_of, count_of, most_numbers}
use Rattle.job.proofs.Limits.{count_most}
use Rattle.system.specs.Inner.{Numbers}
use Rattle.system.specs.System.{sent, argument, denominator, no_denominator, curve_entry, system_entry, coefficient, subtrahend, quotients_entry, matrix, right_place, right_side}

-- what is known of a number whose kind is x
pub kind_is : (r : Option KindOfCode) (k : ℕ) {x : KindOfCode} → kind_said r ≡ kind_of k → r ≡ Some x → kind_of k ≡ kind_named x
kind_is r k e f = sym e ∙ ap kind_said f

-- ---- a number as it is read

module _ {a : ℤ} (w : Within a (2 ^ 41)) where
  pub number_is : to_z w64 (of_z w64 a) ≡ a
  number_is = machine_eq (search machs depth 9) tt refl

  pub number-within : Within (to_z w64 (of_z w64 a)) (2 ^ 41)
  number-within = rw number_is w

  pub negated_is : to_z w64 (of_z w64 (pos 0 -ℤ to_z w64 (of_z w64 a))) ≡ neg_ℤ a
  negated_is = machine_eq (search machs depth 9) tt (+ℤ_idl (neg_ℤ a))

-- ---- right-hand sides

-- the number at the place p, as it is read
pub right_read : (kind : Kind) (n : ℕ) (v : List ℤ) (i p : ℕ) → mag (sent v p) < 2 ^ 63 → p ≡ right_place kind n i → to_z w64 (of_z w64 (sent v p)) ≡ right_side kind n v i
unfolding right_side
right_read kind n v i p f e = to_z-of_z {w = w64} {z = sent v p} (record { sfits = f }) ∙ rw e refl

-- entry j of row i of a system, the right side being entry n
pub system_place : (n i j : ℕ) → i < n → j ≤ n → i * (n + 1) + j < n * (n + 1)
system_place n i j h l = omega (arith, mul-le-mul_right (n + 1) h)

pub right_place-most : (k n i : ℕ) → k ≤ 3 → i < n → right_place (kind_of k) n i < count_of (kind_of k) n
right_place-most zero n i l h = omega arith
right_place-most (suc zero) n i l h = omega arith
right_place-most (suc (suc zero)) n i l h = system_place n i n h (omega arith)
right_place-most (suc (suc (suc zero))) n zero l h = omega arith
right_place-most (suc (suc (suc zero))) n (suc i) l h = omega arith
right_place-most (suc (suc (suc (suc k)))) n i l h = absurd (omega arith)

-- also that of one row more, which no job has
pub place_small : (n i : ℕ) → i ≤ n → n ≤ 16 → i * (n + 1) + n ≤ 288
place_small n i h l =
    let a : i ≤ 16 = omega arith in
    let b : n + 1 ≤ 17 = omega arith in
    omega (arith, mul-le-mul a b)

pub place_in_numbers : (n i j : ℕ) → i < n → j ≤ n → n ≤ 16 → i * (n + 1) + j < most_numbers
place_in_numbers n i j h l m = omega (arith, system_place n i j h l, count_most system n m)

-- entry j of row i, from the identity's entry and the number a_ij as it is read
pub entry_read : (u n : ℕ) (v : List ℤ) (i j : ℕ) (e : ℤ) → Numbers (n * (n + 1)) v → i < n → j < n → mag e < 2 ^ 63
    → e ≡ cond (eqb i j) (pos u) (pos 0) -ℤ to_z w64 (of_z w64 (sent v (i * (n + 1) + j))) → to_z w64 (of_z w64 e) ≡ system_entry u n v i j
unfolding system_entry
entry_read u n v i j e m a b f p =
    to_z-of_z {w = w64} {z = e} (record { sfits = f })
    ∙ p
    ∙ ap (λ x. cond (eqb i j) (pos u) (pos 0) -ℤ x) (number_is (m.small (i * (n + 1) + j) (system_place n i j a (omega arith))))

-- ---- the matrix, by the kind

-- an array made with the argument as it is read
pub argument_read : (n : ℕ) (v g : List ℤ) → mag (argument v) < 2 ^ 63 → g ≡ flat_matrix n (curve_entry (to_z w64 (of_z w64 (argument v))) no_denominator)
    → g ≡ flat_matrix n (curve_entry (argument v) no_denominator)
argument_read n v g f e = e ∙ ap (λ x. flat_matrix n (curve_entry x no_denominator)) (to_z-of_z {w = w64} {z = argument v} (record { sfits = f }))

module _ (kind n u : ℕ) (v g : List ℤ) where
  pub polynomial_is : kind_of kind ≡ polynomial → g ≡ flat_matrix n (curve_entry (argument v) no_denominator) → g ≡ flat_matrix n (matrix (kind_of kind) n u v)
  unfolding matrix
  polynomial_is e h = rw e h

  pub rational_is : kind_of kind ≡ rational → g ≡ flat_matrix n (curve_entry (argument v) (denominator n v)) → g ≡ flat_matrix n (matrix (kind_of kind) n u v)
  unfolding matrix
  rational_is e h = rw e h

  pub system_is : (w : ℕ) → kind_of kind ≡ system → w ≡ u → g ≡ flat_matrix n (system_entry w n v) → g ≡ flat_matrix n (matrix (kind_of kind) n u v)
  unfolding matrix
  system_is w e f h = rw e (rw f at h)

  pub quotients_is : kind_of kind ≡ quotients → g ≡ flat_matrix n (quotients_entry (coefficient v) (subtrahend v)) → g ≡ flat_matrix n (matrix (kind_of kind) n u v)
  unfolding matrix
  quotients_is e h = rw e h
