-- What the contracts of inner functions cite; a reader of the promises can skip it.
use mathlib.Core.{Path.◌≡◌, Bool.Bool, List.List}
use Rattle.std.specs.Prelude.{ℕ, ◌+◌, ◌*◌, ◌/◌, ◌^◌, ◌<◌, ◌≤◌}
use lib.{Dec.ltb, IntN.ℤ, IntN.pos, IntN.nat_abs, ListN.length, ListN.replicate}
use Rattle.integers.specs.{Sum.Within, Sum.weight, Flat.at, Flat.entry}
use Rattle.job.specs.{Kind.Kind, Rules.inner_unit, Rules.bound_over, Rules.bound_under, declared.Header.Header}
use Rattle.system.specs.{Rows.weight_factor, Rows.weight_room, System.sent, System.right_place}

-- v has c numbers, none of a magnitude above 2^41, which the f + 2 bits of a number sent keep
pub record Numbers (c : ℕ) (v : List ℤ) : Type 0 where
  pub enough : c ≤ length v
  pub small : (i : ℕ) → i < c → Within (sent v i) (2 ^ 41)

-- an array in which a matrix is placed
abbrev pub zeros : List ℤ
zeros = replicate 256 (pos 0)

-- from row 1 on, the right-hand sides stand s numbers apart
pub record Apart (kind : Kind) (n s : ℕ) : Type 0 where
  pub next : (i : ℕ) → 1 ≤ i → right_place kind n (i + 1) ≡ right_place kind n i + s
  pub small : s ≤ 17

-- the largest weight that is light enough, and the largest residual that is within its bound
abbrev pub largest_light : Header → ℕ
largest_light h = weight_room h / weight_factor h

abbrev pub residual_most : Header → ℕ → ℕ
residual_most h s = bound_over * inner_unit h s / bound_under

-- row i of the array g weighs more than the limit; number i of the array z is of a magnitude above the bound
abbrev pub too_heavy : (limit : ℤ) (n : ℕ) (g : List ℤ) (i : ℕ) → Bool
too_heavy limit n g i = ltb (nat_abs limit) (weight n (entry g i))

abbrev pub too_large : ℤ → List ℤ → ℕ → Bool
too_large bound z i = ltb (nat_abs bound) (nat_abs (at z i))
