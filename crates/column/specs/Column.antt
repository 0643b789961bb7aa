-- What the contracts of the crate cite: when a column may be added to the rows' sums, and what they are then.
-- An entry is at most 2^40 in magnitude, a digit 15, and a sum over 16 columns 2^48.
use mathlib.Core.{Path.◌≡◌, Bool.Bool, List.List}
use Rattle.std.specs.Prelude.{ℕ, ◌+◌, ◌-◌, ◌^◌, ◌<◌, ◌≤◌}
use lib.{Dec.eqb, IntN.ℤ, IntN.pos, IntN.nat_abs, IntN.◌+ℤ◌, IntN.◌*ℤ◌, ListN.set}
use Rattle.integers.specs.Flat.{at, entry, stores}

-- a column is skipped where its digit is 0
abbrev pub skipped : ℤ → Bool
skipped d = eqb (nat_abs d) 0

-- column j of the matrix
abbrev pub column : List ℤ → ℕ → ℕ → ℤ
column g j i = entry g i j

-- the numbers from a on and below b are 0
abbrev pub Zeros : (ℕ → ℤ) → ℕ → ℕ → Type 0
Zeros f a b = (i : ℕ) → a ≤ i → i < b → f i ≡ pos 0

-- column j may be added with the digit d to the sums s of the rows from lo on and below hi
pub record MayAddColumn (g : List ℤ) (j lo hi : ℕ) (d : ℤ) (s : List ℤ) : Type 0 where
  pub column : j < 16
  pub last : hi ≤ 16
  pub sums : (i : ℕ) → lo ≤ i → i < hi → nat_abs (at s i) ≤ 2 ^ 48
  pub entries : (i : ℕ) → lo ≤ i → i < hi → nat_abs (entry g i j) ≤ 2 ^ 40
  pub digit : nat_abs d ≤ 15

-- and what the sum of the t-th row from lo on is then
abbrev pub column_added : (g : List ℤ) (j lo : ℕ) (d : ℤ) (s : List ℤ) (t : ℕ) → ℤ
column_added g j lo d s t = at s (lo + t) +ℤ entry g (lo + t) j *ℤ d

-- the sums after the first entry of a column, in row lo, and those from row next on and below hi
abbrev pub first_added : (e : ℤ) (lo : ℕ) (d : ℤ) (s : List ℤ) → List ℤ
first_added e lo d s = set s lo (at s lo +ℤ e *ℤ d)

abbrev pub entries_added : (g : List ℤ) (e : ℤ) (j lo next hi : ℕ) (d : ℤ) (s : List ℤ) → List ℤ
entries_added g e j lo next hi d s = stores (first_added e lo d s) (λ t. next + t) (column_added g j next d (first_added e lo d s)) (hi - next)
