-- The proofs of the statements on the additions that steps cost. What a step costs is counted in `Laws`, and
-- the entries of a curve here, column by column, of a sum of quotients row by row.
use mathlib.Core.Path.{◌≡◌, refl, sym, ap}
use Prim.Native.Nat.{ℕ, zero, suc, ◌+◌, ◌*◌, ◌-◌, ◌<◌, ◌≤◌}
use native.Mathlib.Omega.{arith}
use borrow.Author.Tests.{ne_eqb}
use lib.IntN.{ℤ}
use Rattle.integers.specs.Sum.{total}
use Rattle.integers.proofs.Sum.{total_head, total-none, total-one, total_le}
use Rattle.job.specs.Kind.{polynomial, rational, system, quotients, unused}
use Rattle.system.specs.System.{argument, denominator, no_denominator, curve_entry, coefficient, subtrahend, quotients_entry, matrix}
use Rattle.system.proofs.Quotients.{off_diagonal}
use Rattle.additions.specs.Additions.{nonzero, entries, FirstStepNone, AdditionsMost, EntriesMost}
use Rattle.additions.proofs.Laws.{nonzero-most, column_entries, entries_by_columns, entries_square, additions-zero, additions-after_first}

pub first_step_none : FirstStepNone
first_step_none n G d h = omega (arith, additions-after_first n G d 0 h)

pub additions_most : AdditionsMost
additions_most n G d zero h = omega (arith, additions-zero n G d)
additions_most n G d (suc k) h =
    let e : suc k - 1 ≡ k = omega arith in
    omega (arith, ap (λ m. m * entries n G) e, additions-after_first n G d k h)

-- ---- the entries of a curve of order m + 1, column by column

module _ (m : ℕ) (x : ℤ) (q : ℕ → ℤ) where
  abbrev column : ℕ → ℕ
  column = column_entries (suc m) (curve_entry x q)

  -- a column past the first has x, and in one row only
  later-column : (j : ℕ) → j < m → column (suc j) ≤ 1
  unfolding curve_entry
  later-column j l =
      omega (
        arith,
        total-one (suc m) j (λ i. nonzero (curve_entry x q i (suc j))) (omega arith) (λ i k h. rw (ne_eqb j i (λ e. h (sym e)))),
        nonzero-most (curve_entry x q j (suc j)),
      )

  past_first-column : entries (suc m) (curve_entry x q) ≤ column 0 + m
  past_first-column =
      omega (
        arith,
        entries_by_columns (suc m) (curve_entry x q),
        total_head m column,
        total_le m (λ j. column (suc j)) 1 later-column,
      )

  -- the first column has no entry in row 0
  first_column : column 0 ≤ m
  unfolding curve_entry
  first_column =
      omega (
        arith,
        total_head m (λ i. nonzero (curve_entry x q i 0)),
        total_le m (λ i. nonzero (curve_entry x q (suc i) 0)) 1 (λ i l. nonzero-most (curve_entry x q (suc i) 0)),
      )

-- that of a polynomial has none at all
first_column-none : (m : ℕ) (x : ℤ) → column m x no_denominator 0 ≡ 0
unfolding curve_entry
first_column-none m x = total-none (suc m) _ (λ i l. none i)
  where
    none : (i : ℕ) → nonzero (curve_entry x no_denominator i 0) ≡ 0
    none zero = refl
    none (suc i) = refl

-- ---- the entries of a sum of quotients of order m + 1, row by row

module _ (m : ℕ) (c b : ℕ → ℤ) where
  abbrev row : ℕ → ℕ
  row i = total (suc m) (λ j. nonzero (quotients_entry c b i j))

  -- the first row has none in its first column
  row_0_entries : row 0 ≤ m
  unfolding quotients_entry
  row_0_entries =
      omega (
        arith,
        total_head m (λ j. nonzero (quotients_entry c b 0 j)),
        total_le m (λ j. nonzero (quotients_entry c b 0 (suc j))) 1 (λ j l. nonzero-most (quotients_entry c b 0 (suc j))),
      )

  -- a later row has one, on the diagonal
  later-entries : (i : ℕ) → i < m → row (suc i) ≤ 1
  later-entries i l =
      omega (
        arith,
        total-one (suc m) (suc i) (λ j. nonzero (quotients_entry c b (suc i) j)) (omega arith) (λ j k h. rw (off_diagonal c b (suc i) j (omega arith) h)),
        nonzero-most (quotients_entry c b (suc i) (suc i)),
      )

  quotients-entries : entries (suc m) (quotients_entry c b) ≤ 2 * m
  unfolding entries
  quotients-entries = omega (arith, total_head m row, row_0_entries, total_le m (λ i. row (suc i)) 1 later-entries)

pub entries-most : EntriesMost
unfolding matrix entries
entries-most polynomial zero u v = omega (arith, entries_square 0 (matrix polynomial 0 u v))
entries-most polynomial (suc m) u v =
    omega (arith, past_first-column m (argument v) no_denominator, first_column-none m (argument v))
entries-most rational zero u v = omega (arith, entries_square 0 (matrix rational 0 u v))
entries-most rational (suc m) u v =
    omega (arith, past_first-column m (argument v) (denominator (suc m) v), first_column m (argument v) (denominator (suc m) v))
entries-most system n u v = entries_square n (matrix system n u v)
entries-most quotients zero u v = omega (arith, entries_square 0 (matrix quotients 0 u v))
entries-most quotients (suc m) u v = omega (arith, quotients-entries m (coefficient v) (subtrahend v))
entries-most unused n u v = omega (arith, total-none n _ (λ i l. total-none n _ (λ j k. refl)))
