-- What the contracts of this crate's functions cite, which are all inner ones; a reader of the promises can
-- skip it.
use mathlib.Core.{Path.◌≡◌, List.List, Bool.cond}
use Rattle.std.specs.Prelude.{ℕ, ◌+◌, ◌*◌, ◌^◌, ◌<◌, ◌≤◌, ◌/◌, ◌%◌}
use lib.{IntN.ℤ, IntN.pos, IntN.nat_abs, IntN.◌+ℤ◌, IntN.◌-ℤ◌, ListN.length, ListN.get_or, Dec.ltb}
use Rattle.integers.specs.{Flat.at, Flat.entry, Sum.sum}
use Rattle.column.specs.Column.{skipped}

-- ---- the columns and their negatives, for digits of radix 2: a half of 256 for the negatives and one for
-- the columns, in each of which the 16 rows of a column stand one after the other

-- how many numbers these are
abbrev pub both_halves : ℕ
both_halves = 2 * 256

-- the entry of row e % 16 in column e / 16, 0 past row n
abbrev pub cell : ℕ → List ℤ → ℕ → ℤ
cell n g e = cond (ltb (e % 16) n) (entry g (e % 16) (e / 16)) (pos 0)

-- the cells below e stand in the first half, as negatives, and in the second, and all else has zeros
pub record Tabulated (n : ℕ) (g t : List ℤ) (e : ℕ) : Type 0 where
  pub size : length t ≡ both_halves
  pub negatives : (k : ℕ) → k < e → at t k ≡ pos 0 -ℤ cell n g k
  pub entries : (k : ℕ) → k < e → at t (256 + k) ≡ cell n g k
  pub rest : (k : ℕ) → e ≤ k → k < 256 → (at t k ≡ pos 0) × (at t (256 + k) ≡ pos 0)

-- row i as the second half has it
abbrev pub table_row : List ℤ → ℕ → ℕ → ℤ
table_row t i j = at t (256 + (16 * j + i))

-- a table of the matrix that g holds: the first half has the negatives of the second, and no magnitude in it
-- is above 2^40
pub record Columns (n : ℕ) (g t : List ℤ) : Type 0 where
  pub negatives : (e : ℕ) → e < 16 * n → at t e ≡ pos 0 -ℤ at t (256 + e)
  pub small : (e : ℕ) → e < 16 * n → nat_abs (at t (256 + e)) ≤ 2 ^ 40
  pub entries : (i j : ℕ) → i < n → j < n → table_row t i j ≡ entry g i j

-- the entries' negatives and the entries fit the table
abbrev pub MayTabulate : (n : ℕ) (g : List ℤ) → Type 0
MayTabulate n g = (i j : ℕ) → i < n → j < n → nat_abs (entry g i j) ≤ 2 ^ 40

-- ---- the columns that are not skipped

-- where column j, or its negative, starts in the table for the digit d
abbrev pub column_place : (d : ℤ) (j : ℕ) → ℕ
column_place d j = 128 * nat_abs (d +ℤ pos 1) + 16 * j

-- what column j brings to a sum over the columns, x being what stands at a place: nothing where it is skipped
abbrev pub brought : (x : ℕ → ℤ) (d : ℤ) (j : ℕ) → ℤ
brought x d j = cond (skipped d) (pos 0) (x (column_place d j))

-- the first `count` places of the list are those of the columns below n that are not skipped, column j having
-- the digit d j: a bound on what the columns bring holds at each place listed, and a sum over the places is
-- one over the columns
pub record Listed (n : ℕ) (d : ℕ → ℤ) (list : List ℕ) (count : ℕ) : Type 0 where
  pub size : length list ≡ 16
  pub few : count ≤ n
  pub each : (x : ℕ → ℤ) (B : ℕ) → ((j : ℕ) → j < n → nat_abs (brought x (d j) j) ≤ B) → (c : ℕ) → c < count → nat_abs (x (get_or list c 0)) ≤ B
  pub sums : (x : ℕ → ℤ) → sum count (λ c. x (get_or list c 0)) ≡ sum n (λ j. brought x (d j) j)

-- the 16 numbers from a place in the table on may be added to the sums
pub record MayAdd (t : List ℤ) (place : ℕ) (s : List ℤ) : Type 0 where
  pub inside : place + 16 ≤ both_halves
  pub sums : (i : ℕ) → i < 16 → nat_abs (at s i) ≤ 2 ^ 48
  pub products : (i : ℕ) → i < 16 → nat_abs (at t (place + i)) ≤ 2 ^ 40

-- and what the sums are then
abbrev pub added : (t : List ℤ) (place : ℕ) (s : List ℤ) (i : ℕ) → ℤ
added t place s i = at s i +ℤ at t (place + i)

-- those from each place listed may be added one after the other
pub record MayAddListed (t : List ℤ) (list : List ℕ) (count : ℕ) : Type 0 where
  pub few : count ≤ 16
  pub inside : (c : ℕ) → c < count → get_or list c 0 + 16 ≤ both_halves
  pub products : (c i : ℕ) → c < count → i < 16 → nat_abs (at t (get_or list c 0 + i)) ≤ 2 ^ 40

abbrev pub ListedSums : (t : List ℤ) (list : List ℕ) (count : ℕ) (s : List ℤ) → Type 0
ListedSums t list count s = (i : ℕ) → i < 16 → at s i ≡ sum count (λ c. at t (get_or list c 0 + i))
