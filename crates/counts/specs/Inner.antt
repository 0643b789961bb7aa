-- What the contracts of this crate's functions cite, which are all inner ones; a reader of the promises can
-- skip it.
use mathlib.Core.{Path.◌≡◌, List.List, Bool.cond}
use Rattle.std.specs.Prelude.{ℕ, ◌+◌, ◌<◌, ◌≤◌}
use lib.{IntN.ℤ, ListN.length, ListN.get_or}
use Rattle.integers.specs.{Flat.entry, Sum.total}
use Rattle.additions.specs.Additions.{nonzero}
use Rattle.column.specs.Column.{skipped}

-- ---- in how many steps each column is added

-- t has the number f j for each column j below m
pub record Counts (m : ℕ) (f : ℕ → ℕ) (t : List ℕ) : Type 0 where
  pub size : length t ≡ 16
  pub columns : (j : ℕ) → j < m → get_or t j 0 ≡ f j

-- one more fits each count of the columns below n
pub record MayCount (n : ℕ) (t : List ℕ) : Type 0 where
  pub size : length t ≡ 16
  pub room : (j : ℕ) → j < n → get_or t j 0 < 255

-- the counts t without the digits d may be multiplied by the entries e
pub record MayMultiply (n : ℕ) (e t : List ℕ) (d : ℕ → ℤ) : Type 0 where
  pub enough : (j : ℕ) → j < n → nonzero (d j) ≤ get_or t j 0
  pub few : (j : ℕ) → j < n → get_or t j 0 ≤ 61
  pub entries : (j : ℕ) → j < n → get_or e j 0 ≤ 16

-- the entries of column j other than 0
abbrev pub column_entries : (n : ℕ) (g : List ℤ) (j : ℕ) → ℕ
column_entries n g j = total n (λ i. nonzero (entry g i j))

-- a count after one number more, which is left out where it is 0: a digit, whose column is then skipped, or
-- an entry
abbrev pub counted : (d : ℤ) (count : ℕ) → ℕ
counted d count = cond (skipped d) count (count + 1)
