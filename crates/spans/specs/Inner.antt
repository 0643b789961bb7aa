-- What the contracts of this crate's functions cite, which are all inner ones; a reader of the promises can
-- skip it. The unit of a frame's numbers is at most 2^40, and so is a row's weight; a row's sum is within
-- 2^48.
use mathlib.Core.{Path.◌≡◌, List.List}
use Rattle.std.specs.Prelude.{ℕ, ◌+◌, ◌^◌, ◌<◌, ◌≤◌}
use lib.{IntN.ℤ, IntN.pos, IntN.nat_abs, IntN.◌*ℤ◌, ListN.length, ListN.get_or}
use Rattle.integers.specs.{Flat.at, Flat.entry, Sum.dot, Sum.weight}
use Rattle.column.specs.Column.{column, Zeros}
use Rattle.column.specs.declared.Span.{Span}

-- ---- the rows' sums

-- the sum of row i with the digits d
abbrev pub row_dot : (n : ℕ) (g d : List ℤ) (i : ℕ) → ℤ
row_dot n g d i = dot n (entry g i) (at d)

-- s has the sum of each row
pub record Summed (n : ℕ) (g d s : List ℤ) : Type 0 where
  pub rows : (i : ℕ) → i < n → at s i ≡ row_dot n g d i

-- row i may be summed: no partial sum leaves 64 bits, as an entry weighs at most what its row does
pub record MaySum (g : List ℤ) (i n : ℕ) (d : List ℤ) : Type 0 where
  pub row : i < 16
  pub order : n ≤ 16
  pub light : weight n (entry g i) ≤ 2 ^ 40
  pub digits : (j : ℕ) → j < n → nat_abs (at d j) ≤ 15

-- every row may
abbrev pub MaySumRows : (n : ℕ) (g d : List ℤ) → Type 0
MaySumRows n g d = (i : ℕ) → i < n → MaySum g i n d

-- ---- one column after the other, each multiplied by its digit

-- column j has no entry other than 0 before row lo,
abbrev pub Start : (n : ℕ) (g : List ℤ) (j lo : ℕ) → Type 0
Start n g j lo = (lo < n) × Zeros (column g j) 0 lo

-- none after row lo and before row next,
abbrev pub Next : (g : List ℤ) (j lo next : ℕ) → Type 0
Next g j lo next = (lo < next) × Zeros (column g j) (lo + 1) next

-- and none from row hi on
abbrev pub End : (n : ℕ) (g : List ℤ) (j hi : ℕ) → Type 0
End n g j hi = (hi ≤ n) × Zeros (column g j) hi n

-- all this is so of the rows of a column's span, which has the entry in the row where it starts
pub record IsSpan (n : ℕ) (g : List ℤ) (j : ℕ) (span : Span) : Type 0 where
  pub starts : Start n g j span.start
  pub first : span.first ≡ entry g span.start j
  pub next : Next g j span.start span.next
  pub ends : End n g j span.end

-- one such span for each column
abbrev pub no_span : Span
no_span = record { first = pos 0; start = 0; next = 0; end = 0 }

abbrev pub AreSpans : (n : ℕ) (g : List ℤ) (spans : List Span) → Type 0
AreSpans n g spans = (j : ℕ) → j < n → IsSpan n g j (get_or spans j no_span)

-- a span for each column, of which its first row and the row after its last alone are right
abbrev pub AreWithin : (n : ℕ) (g : List ℤ) (spans : List Span) → Type 0
AreWithin n g spans = (j : ℕ) → j < n → Start n g j (get_or spans j no_span).start × End n g j (get_or spans j no_span).end

-- the products of column 0 with the digit d fit
pub record MayBegin (n : ℕ) (g : List ℤ) (d : ℤ) : Type 0 where
  pub entries : (i : ℕ) → i < n → nat_abs (entry g i 0) ≤ 2 ^ 40
  pub digit : nat_abs d ≤ 15

abbrev pub first_product : (g : List ℤ) (d : ℤ) (i : ℕ) → ℤ
first_product g d i = entry g i 0 *ℤ d

-- s has them in the rows below n
pub record Begun (n : ℕ) (g : List ℤ) (d : ℤ) (s : List ℤ) : Type 0 where
  pub size : length s ≡ 16
  pub rows : (i : ℕ) → i < n → at s i ≡ first_product g d i
