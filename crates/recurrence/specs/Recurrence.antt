-- The recurrence of the E-method (document 01, "One step"), in units of 1/u: one step, the residuals and
-- digits of all steps, and the readings; the choice of a digit; and what the theorems say of them: exact
-- solutions, light rows and the bounds that steps keep. Vectors are functions of a row and matrices of a row
-- and a column, of which those below n count.
use mathlib.Core.{Path.◌≡◌, Bool.cond}
use Rattle.std.specs.Prelude.{ℕ, zero, suc, ◌-◌, ◌^◌, ◌<◌, ◌+◌, ◌*◌, ◌≤◌, ◌/◌}
use lib.{IntN.ℤ, IntN.pos, IntN.◌+ℤ◌, IntN.◌-ℤ◌, IntN.◌*ℤ◌, IntN.negsuc, IntN.neg_ℤ, IntN.nat_abs, Dec.leb}
use Rattle.integers.specs.Sum.{dot, sum, weight}

-- ---- one step, from residuals z and the digits d of the step before

-- r (z_i + Σ_j G_ij d_j): document 01's w, the residual shifted by a digit's place before the new digit is
-- taken off it
unfoldable pub shifted : (n r : ℕ) (G : ℕ → ℕ → ℤ) (z d : ℕ → ℤ) (i : ℕ) → ℤ
shifted n r G z d i = pos r *ℤ (z i +ℤ dot n (G i) d)

-- the new digit, by the rule of selection
unfoldable pub next_digit : (n r : ℕ) (sel : ℤ → ℤ) (G : ℕ → ℕ → ℤ) (z d : ℕ → ℤ) (i : ℕ) → ℤ
next_digit n r sel G z d i = sel (shifted n r G z d i)

-- the new residual: w less the new digit
unfoldable pub next_residual : (n r u : ℕ) (sel : ℤ → ℤ) (G : ℕ → ℕ → ℤ) (z d : ℕ → ℤ) (i : ℕ) → ℤ
next_residual n r u sel G z d i = shifted n r G z d i -ℤ pos u *ℤ next_digit n r sel G z d i

-- ---- all steps: at the start the residuals are the right-hand sides B, and the digits 0

module _ (n r u : ℕ) (sel : ℤ → ℤ) (G : ℕ → ℕ → ℤ) (B : ℕ → ℤ) where
  unfoldable mutual
    pub residual : ℕ → ℕ → ℤ
    residual zero = B
    residual (suc k) = next_residual n r u sel G (residual k) (digit k)

    pub digit : ℕ → ℕ → ℤ
    digit zero = λ i. pos 0
    digit (suc k) = next_digit n r sel G (residual k) (digit k)

-- ---- readings

-- The reading of row i after k steps: the whole number whose radix r digits are that row's digits of the
-- steps 1 to k, by Horner's rule.
unfoldable pub reading : (r : ℕ) (d : ℕ → ℕ → ℤ) (k i : ℕ) → ℤ
reading r d zero i = pos 0
reading r d (suc k) i = pos r *ℤ reading r d k i +ℤ d (suc k) i

-- Document 01's words: the sum, over the steps j from 1 to k, of the digit of step j times r^(k-j).
-- `ReadingSum` of Theorems.antt says that it is the reading.
unfoldable pub digit_sum : (r : ℕ) (d : ℕ → ℕ → ℤ) (k i : ℕ) → ℤ
digit_sum r d k i = sum k (λ j. d (suc j) i *ℤ pos (r ^ (k - suc j)))

-- ---- the recurrence as a relation

-- Residuals z, digits d and readings y, by step and row, that follow the recurrence, by whatever rule the
-- digits are chosen: those of the definitions above, a program's, or digits that somebody sent.
pub record Run (n r u : ℕ) (G : ℕ → ℕ → ℤ) (B : ℕ → ℤ) (z d y : ℕ → ℕ → ℤ) : Type 0 where
  pub z_first : (i : ℕ) → i < n → z 0 i ≡ B i
  pub d_first : (i : ℕ) → i < n → d 0 i ≡ pos 0
  pub y_first : (i : ℕ) → i < n → y 0 i ≡ pos 0
  pub z_next : (k i : ℕ) → i < n → z (suc k) i ≡ shifted n r G (z k) (d k) i -ℤ pos u *ℤ d (suc k) i
  pub y_next : (k i : ℕ) → i < n → y (suc k) i ≡ pos r *ℤ y k i +ℤ d (suc k) i

-- ---- the choice of a digit: which whole number is taken off w, and what every rule of selection has to do

-- The choice does not look at w itself but at an estimate of it (document 02, 3/14), which has five fraction
-- bits: it counts in parts of a unit, of which a unit has 32.
abbrev pub unit_parts : ℕ
unit_parts = 32

-- z / u cut down to a whole number, toward minus infinity on both sides: -1 / u is cut to -1
unfoldable pub cut_down : (u : ℕ) (z : ℤ) → ℤ
cut_down u (pos a) = pos (a / u)
cut_down u (negsuc a) = negsuc (a / u)

-- The estimate of w, in parts of the unit u. `EstimateFloor` of Theorems.antt says what it leaves out.
unfoldable pub estimate : (u : ℕ) (w : ℤ) → ℤ
estimate u w = cut_down u (pos unit_parts *ℤ w)

-- Document 01's rule, applied to the estimate. The digit of an estimate's magnitude a, in parts: the nearest
-- whole number of units, a tie up, while a is at most p units; past that, a cut to whole units, as rounding
-- up could give p + 1. The nearest is a and half a unit, cut.
unfoldable pub digit_size : (p a : ℕ) → ℕ
digit_size p a = cond (leb a (p * unit_parts)) ((a + unit_parts / 2) / unit_parts) (a / unit_parts)

-- The digit of an estimate e: that of its magnitude, with e's sign, so that a tie goes away from zero on both
-- sides.
unfoldable pub rounded : (p : ℕ) (e : ℤ) → ℤ
rounded p (pos a) = pos (digit_size p a)
rounded p (negsuc a) = neg_ℤ (pos (digit_size p (suc a)))

-- the digit of w
unfoldable pub select : (p u : ℕ) (w : ℤ) → ℤ
select p u w = rounded p (estimate u w)

-- What a rule has to do. Residuals are to stay within the fraction c / e of a unit, and digits within p. So
-- wherever |w| is at most p + c / e units, the digit is within p, and what it leaves is at most c / e. All
-- that is proved of the recurrence asks no more of its rule than this.
pub record Selects (p u c e : ℕ) (sel : ℤ → ℤ) : Type 0 where
  pub small : (w : ℤ) → e * nat_abs w ≤ (e * p + c) * u → nat_abs (sel w) ≤ p
  pub left : (w : ℤ) → e * nat_abs w ≤ (e * p + c) * u → e * nat_abs (w -ℤ pos u *ℤ sel w) ≤ c * u

-- ---- the linear equations A y = b, with A the identity less G: u N_i - Σ_j G_ij N_j = D B_i

-- the fractions N i / D solve every row: A times their vector is b
pub record Solves (n u D : ℕ) (G : ℕ → ℕ → ℤ) (B N : ℕ → ℤ) : Type 0 where
  pub solves : (i : ℕ) → i < n → pos u *ℤ N i -ℤ dot n (G i) N ≡ pos D *ℤ B i

-- ---- light rows (document 01, "The system") and the bounds that steps keep: residuals are to stay within
-- the fraction c / e of a unit, 17/32 since document 02's 3/14

-- A row of weight S is light (document 01: light enough): e r p S ≤ u (e p - c (r - 1)), put without a
-- difference; `LightRule` of Theorems.antt says that it is the same. It says that r times what z and the
-- digits can come to is at most p + c / e units, within which a rule of selection works.
pub record Light (r p u c e S : ℕ) : Type 0 where
  pub light : r * (e * (p * S) + c * u) ≤ (e * p + c) * u

-- every row below n is
pub record LightRows (n r p u c e : ℕ) (G : ℕ → ℕ → ℤ) : Type 0 where
  pub rows : (i : ℕ) → i < n → Light r p u c e (weight n (G i))

-- each residual is at most c / e of a unit, and each digit within p
pub record WithinBounds (n p u c e : ℕ) (z d : ℕ → ℤ) : Type 0 where
  pub z_small : (i : ℕ) → i < n → e * nat_abs (z i) ≤ c * u
  pub d_small : (i : ℕ) → i < n → nat_abs (d i) ≤ p
