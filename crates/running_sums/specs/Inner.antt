-- What the contracts of inner functions cite; a reader of the promises can skip it. When words may be put
-- into a list, and when columns may be added.
use Rattle.std.specs.Prelude.{List, ℕ, ◌+◌, ◌^◌, ◌≤◌, ℤ}
use Rattle.integers.specs.Flat.{at}
use Rattle.spans.specs.Inner.{MaySumRows}
use Rattle.running_sums.specs.RunningSums.{word_count_below}

-- a column's words may be put from the word `to` on into a list of `room` words
pub record MayPutColumn (number n to room : ℕ) : Type 0 where
  pub order : n ≤ 16
  pub numbered : number ≤ 16
  pub start : to ≤ 2 ^ 16
  pub inside : to + 1 + n ≤ room

-- those of all columns may, and the rows may be summed
pub record MayPut (n : ℕ) (g d : List ℤ) (room : ℕ) : Type 0 where
  pub order : n ≤ 16
  pub sums : MaySumRows n g d
  pub enough : word_count_below n (at d) n ≤ room
