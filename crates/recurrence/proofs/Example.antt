-- The estimate and the choice in numbers, and two systems after document 01's cases, with every hypothesis of
-- the distance met and the numbers computed: the theorems speak of something, and the definitions give what
-- the documents say. The systems have unit 16, radix 2 and largest digit 1.
use mathlib.Core.Path.{◌≡◌, refl}
use mathlib.Core.List.{[], ◌∷◌, map}
use Prim.Native.Nat.{ℕ, ◌+◌, ◌*◌, ◌<◌, ◌≤◌, ◌^◌}
use native.Mathlib.Omega.{arith}
use lib.Dec.{lit≤}
use lib.ListN.{get_or}
use lib.IntN.{ℤ, pos, negsuc, nat_abs, ◌-ℤ◌, ◌*ℤ◌}
use lib.Signed.{◌≤ℤ◌, ◌<ℤ◌}
use Rattle.integers.specs.Sum.{sum, total, dot, weight}
use Rattle.integers.proofs.Maximum.{below_suc}
use Rattle.job.specs.Rules.{bound_over, bound_under}
use Rattle.recurrence.specs.Recurrence.{Solves, Selects, cut_down, estimate, digit_size, rounded, select, shifted, next_digit, next_residual, digit, reading, digit_sum, Light, LightRows}
use Rattle.recurrence.proofs.Selection.{estimate_exact, estimate_floor}
use Rattle.recurrence.proofs.Theorems.{reading-sum, select_distance}

-- ---- the estimate: at unit 16, which has fewer fraction bits, it is w itself; at unit 64, 33 and -33 are
-- both cut down, and the floor is less than a part below

exact : estimate 16 (negsuc 6) ≡ negsuc 13
exact = estimate_exact (negsuc 6)

cut : map (estimate 64) (pos 33 ∷ negsuc 32 ∷ []) ≡ pos 16 ∷ negsuc 16 ∷ []
unfolding estimate cut_down
cut = refl

floor_below : (negsuc 1087 ≤ℤ negsuc 1055) × (negsuc 1055 <ℤ negsuc 1023)
unfolding estimate cut_down
floor_below = estimate_floor 64 (negsuc 32) (omega arith)

-- ---- the choice, at unit 16 and largest digit 1: ties away from zero on both sides, just under a tie, and
-- no rounding up above 1

ties : map (select 1 16) (pos 8 ∷ negsuc 7 ∷ []) ≡ pos 1 ∷ negsuc 0 ∷ []
unfolding select rounded estimate cut_down digit_size
ties = refl

under_ties : map (select 1 16) (pos 7 ∷ negsuc 6 ∷ []) ≡ pos 0 ∷ pos 0 ∷ []
unfolding select rounded estimate cut_down digit_size
under_ties = refl

above_1 : map (select 1 16) (pos 24 ∷ negsuc 23 ∷ []) ≡ pos 1 ∷ negsuc 0 ∷ []
unfolding select rounded estimate cut_down digit_size
above_1 = refl

-- At unit 64 the estimate of -31, just above -1/2, is -1/2, and its digit -1; that of 31 is below 1/2, and
-- its digit 0. So -31 leaves 33/64, and residuals are not kept to 1/2.
just_above : map (select 1 64) (negsuc 30 ∷ pos 31 ∷ []) ≡ negsuc 0 ∷ pos 0 ∷ []
unfolding select rounded estimate cut_down digit_size
just_above = refl

not_half : Selects 1 64 1 2 (select 1 64) → ⊥
unfolding select rounded estimate cut_down digit_size
not_half s = let h : 66 ≤ 64 = s.left (negsuc 30) (omega arith) in omega arith

-- ---- case B with a q_1 of 3, a rational curve of order 2: x 2, p 8 and 0

abbrev G : ℕ → ℕ → ℤ
G i j = get_or (pos 0 ∷ pos 2 ∷ negsuc 2 ∷ pos 0 ∷ []) (2 * i + j) (pos 0)

abbrev B : ℕ → ℤ
B i = get_or (pos 8 ∷ pos 0 ∷ []) i (pos 0)

-- the solution, over 131
abbrev N : ℕ → ℤ
N i = get_or (pos 64 ∷ negsuc 11 ∷ []) i (pos 0)

both : (Q : ℕ → Type 0) → Q 0 → Q 1 → (i : ℕ) → i < 2 → Q i
both Q a b = below_suc Q 1 b (below_suc Q 0 a (λ i m. absurd (omega arith)))

light : LightRows 2 2 1 16 bound_over bound_under G
unfolding weight total
light = record { rows = both (λ i. Light 2 1 16 bound_over bound_under (weight 2 (G i))) (record { light = lit≤ tt }) (record { light = lit≤ tt }) }

solved : Solves 2 16 131 G B N
unfolding dot sum
solved = record { solves = both (λ i. pos 16 *ℤ N i -ℤ dot 2 (G i) N ≡ pos 131 *ℤ B i) refl refl }

abbrev d : ℕ → ℕ → ℤ
d = digit 2 2 16 (select 1 16) G B

near : (k i : ℕ) → i < 2 → 1 * nat_abs (N i *ℤ pos (2 ^ k) -ℤ pos 131 *ℤ reading 2 d k i) ≤ 1 * 131
near = select_distance (omega arith) (omega arith) light (both (λ i. bound_under * nat_abs (B i) ≤ bound_over * 16) (lit≤ tt) (lit≤ tt)) solved

-- the digits of five steps
row_1 : map (λ k. d k 0) (1 ∷ 2 ∷ 3 ∷ 4 ∷ 5 ∷ []) ≡ pos 1 ∷ pos 0 ∷ pos 0 ∷ pos 0 ∷ pos 0 ∷ []
unfolding digit next_digit next_residual shifted select rounded estimate cut_down digit_size dot sum
row_1 = refl

row_2 : map (λ k. d k 1) (1 ∷ 2 ∷ 3 ∷ 4 ∷ 5 ∷ []) ≡ pos 0 ∷ pos 0 ∷ negsuc 0 ∷ pos 1 ∷ negsuc 0 ∷ []
unfolding digit next_digit next_residual shifted select rounded estimate cut_down digit_size dot sum
row_2 = refl

-- 16 / 32 against 64 / 131, and -3 / 32 against -12 / 131
readings : map (reading 2 d 5) (0 ∷ 1 ∷ []) ≡ pos 16 ∷ negsuc 2 ∷ []
unfolding reading digit next_digit next_residual shifted select rounded estimate cut_down digit_size dot sum
readings = refl

-- as document 01's sum, -3 is -4, 2 and -1
reading_B : reading 2 d 5 1 ≡ negsuc 2
unfolding digit_sum digit next_digit next_residual shifted select rounded estimate cut_down digit_size dot sum
reading_B = reading-sum 2 d 5 1

-- ---- case C with an a of 13, a system of order 1: b 8. The residual is 0 after the first step, and later
-- digits are not.

row_C : map (λ k. digit 1 2 16 (select 1 16) (λ i j. pos 3) (λ i. pos 8) k 0) (1 ∷ 2 ∷ 3 ∷ 4 ∷ []) ≡ pos 1 ∷ pos 0 ∷ pos 1 ∷ pos 0 ∷ []
unfolding digit next_digit next_residual shifted select rounded estimate cut_down digit_size dot sum
row_C = refl
