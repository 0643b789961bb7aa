-- The entries and the additions of small jobs, computed, and a number out of each statement: each bound is
-- met. The unit is 16.
use mathlib.Core.Path.{◌≡◌, refl}
use mathlib.Core.Bool.{cond}
use mathlib.Core.List.{List, [], ◌∷◌, map}
use Prim.Native.Nat.{ℕ, zero, suc, ◌≤◌}
use lib.{Dec.eqb, IntN.ℤ, IntN.pos, IntN.negsuc}
use Rattle.integers.specs.Sum.{total}
use Rattle.job.specs.Kind.{polynomial, rational, system, quotients, unused}
use Rattle.system.specs.System.{curve_entry, system_entry, quotients_entry, matrix}
use Rattle.additions.specs.Additions.{step_additions, additions, entries, ZeroAtFirst, FirstStepNone, AdditionsMost, EntriesMost}
use Rattle.additions.proofs.Theorems.{first_step_none, additions_most, entries-most}

-- ---- the jobs

-- A rational curve of order 3: x 3, then p_0 to p_2, then q_1 2 and q_2 -1. The rows of G are 0 3 0, -2 0 3
-- and 1 0 0. As a polynomial, of which no q is sent, they are 0 3 0, 0 0 3 and 0 0 0.
abbrev curve : List ℤ
curve = pos 3 ∷ pos 8 ∷ pos 1 ∷ pos 1 ∷ pos 2 ∷ negsuc 0 ∷ []

abbrev G : ℕ → ℕ → ℤ
G = matrix rational 3 16 curve

-- A system of order 2, with the rows 13 2 and 5 14 and the right-hand sides 8 and 1. Those of G are 3 -2 and
-- -5 2.
abbrev rows : List ℤ
rows = pos 13 ∷ pos 2 ∷ pos 8 ∷ pos 5 ∷ pos 14 ∷ pos 1 ∷ []

-- A sum of quotients of order 3: c_0 4, then c_1 1, a_1 8 and b_1 2, then c_2 2, a_2 5 and b_2 -3. The rows
-- of G are 0 1 2, 0 2 0 and 0 0 -3.
abbrev shunts : List ℤ
shunts = pos 4 ∷ pos 1 ∷ pos 8 ∷ pos 2 ∷ pos 2 ∷ pos 5 ∷ negsuc 2 ∷ []

-- digits that are 0 before the first step, and 1 in every row from then on
abbrev d : ℕ → ℕ → ℤ
d zero j = pos 0
d (suc k) j = pos 1

zero-at_first : ZeroAtFirst 3 d
zero-at_first j l = refl

-- ---- what the definitions give

entry_counts : (entries 3 (matrix polynomial 3 16 curve) ≡ 2) × (entries 3 G ≡ 4) × (entries 2 (matrix system 2 16 rows) ≡ 4) × (entries 3 (matrix quotients 3 16 shunts) ≡ 4) × (entries 3 (matrix unused 3 16 curve) ≡ 0)
unfolding entries matrix curve_entry system_entry quotients_entry total
entry_counts = (refl, refl, refl, refl, refl)

-- one digit of -1 and the others 0: column 0 of G has two entries, columns 1 and 2 have one each
each-column : map (λ c. step_additions 3 G (λ j. cond (eqb j c) (negsuc 0) (pos 0))) (0 ∷ 1 ∷ 2 ∷ []) ≡ 2 ∷ 1 ∷ 1 ∷ []
unfolding step_additions matrix curve_entry total
each-column = refl

-- the first step has none, and each later one all four entries
steps_0_to_3 : map (additions 3 G d) (0 ∷ 1 ∷ 2 ∷ 3 ∷ []) ≡ 0 ∷ 0 ∷ 4 ∷ 8 ∷ []
unfolding additions step_additions matrix curve_entry total
steps_0_to_3 = refl

-- ---- and what the statements give: just these numbers

first_none : FirstStepNone → additions 3 G d 1 ≡ 0
first_none f = f 3 G d zero-at_first

at_most : AdditionsMost → (additions 3 G d 0 ≤ 0) × (additions 3 G d 2 ≤ 4) × (additions 3 G d 3 ≤ 8)
unfolding entries matrix curve_entry total
at_most a = (a 3 G d 0 zero-at_first, a 3 G d 2 zero-at_first, a 3 G d 3 zero-at_first)

by_kind : EntriesMost
    → (entries 3 (matrix polynomial 3 16 curve) ≤ 2) × (entries 3 G ≤ 4) × (entries 2 (matrix system 2 16 rows) ≤ 4) × (entries 3 (matrix quotients 3 16 shunts) ≤ 4) × (entries 3 (matrix unused 3 16 curve) ≤ 0)
by_kind e = (e polynomial 3 16 curve, e rational 3 16 curve, e system 2 16 rows, e quotients 3 16 shunts, e unused 3 16 curve)

-- the statements are proved
pub numbers : (additions 3 G d 1 ≡ 0) × (additions 3 G d 3 ≤ 8) × (entries 3 G ≤ 4)
numbers = (first_none first_step_none, (at_most additions_most).2, (by_kind entries-most).1)
