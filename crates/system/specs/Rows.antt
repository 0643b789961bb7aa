-- Rows that are too heavy (document 01, "The system"; refusal 8) and residuals that are too large, and the
-- first row that is.
use mathlib.Core.{Path.◌≡◌, Bool.Bool, Bool.true, Bool.false, Bool.not, Bool.cond, Logic.◌↔◌}
use Rattle.std.specs.Prelude.{ℕ, zero, suc, ◌*◌, ◌-◌, ◌<◌, Option, None, Some}
use lib.{Dec.leb, IntN.ℤ, IntN.nat_abs}
use Rattle.integers.specs.Sum.{weight}
use Rattle.job.specs.{Header.radix, Header.unit, Rules.inner_unit, Rules.bound_over, Rules.bound_under, declared.Header.Header}

-- The rule of light rows, 32 × r × p × S at most 2^f × (32p - 17 × (r - 1)), where 32 and 17 are the residual
-- bound's: what a weight S is multiplied by, and what that may come to
abbrev pub weight_factor : Header → ℕ
weight_factor h = bound_under * radix h.code * h.p

abbrev pub weight_room : Header → ℕ
weight_room h = unit h * (bound_under * h.p - bound_over * (radix h.code - 1))

-- document 01's "light enough", of a row of weight S
abbrev pub light_enough : Header → ℕ → Bool
light_enough h S = leb (weight_factor h * S) (weight_room h)

-- a residual z inside a state of scale s is within its bound
abbrev pub residual_kept : Header → ℕ → ℤ → Bool
residual_kept h s z = leb (bound_under * nat_abs z) (bound_over * inner_unit h s)

-- ---- the first row

-- the number, from 1, of the first of k rows from row i on whose test is true; 0 where none is
unfoldable pub first_row_from : (i k : ℕ) (t : ℕ → Bool) → ℕ
first_row_from i zero t = 0
first_row_from i (suc k) t = cond (t i) (suc i) (first_row_from (suc i) k t)

abbrev pub first_row : (n : ℕ) (t : ℕ → Bool) → ℕ
first_row n t = first_row_from 0 n t

-- a row's number as the code gives it, which has no row for 0
abbrev pub row_given : ℕ → Option ℕ
row_given zero = None
row_given (suc i) = Some (suc i)

-- no test of n rows is true
pub record Never (n : ℕ) (t : ℕ → Bool) : Type 0 where
  pub never : (j : ℕ) → j < n → t j ≡ false

-- of n rows, row i is the first whose test is true
pub record FirstRowIs (n : ℕ) (t : ℕ → Bool) (i : ℕ) : Type 0 where
  pub inside : i < n
  pub here : t i ≡ true
  pub before : Never i t

-- Row i is given, as i + 1, exactly when its test is the first that is true, and 0 exactly when no test is.
-- Proved in proofs/FirstRow.antt, as `first_row_is` and `first_row-none`.
abbrev pub FirstRowFound : Type 0
FirstRowFound = (t : ℕ → Bool) (n i : ℕ) → (first_row n t ≡ suc i) ↔ FirstRowIs n t i

abbrev pub FirstRowNone : Type 0
FirstRowNone = (t : ℕ → Bool) (n : ℕ) → (first_row n t ≡ 0) ↔ Never n t

-- the first row that is too heavy, and the first whose residual is too large; 0 where none is
abbrev pub heavy_row : Header → (ℕ → ℕ → ℤ) → ℕ
heavy_row h G = first_row h.n (λ i. not (light_enough h (weight h.n (G i))))

abbrev pub large_residual : Header → ℕ → (ℕ → ℤ) → ℕ
large_residual h s Z = first_row h.n (λ i. not (residual_kept h s (Z i)))
