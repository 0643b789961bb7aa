-- What the contracts of inner functions cite; a reader of the promises can skip it.
use mathlib.Core.{Path.◌≡◌, Bool.Bool, Bool.false, List.List, Logic.◌↔◌}
use Rattle.std.specs.Prelude.{ℕ, ◌<◌, ◌≤◌}
use lib.{Dec.ltb, IntN.ℤ, IntN.nat_abs, ListN.length, ListN.get_or}
use Rattle.integers.specs.Flat.{entry}
use Rattle.job.specs.declared.Header.{Header}
use Rattle.state.specs.declared.State.{State}

-- the state of parts that are lent one by one
abbrev pub state_of : (busy : Bool) (h : Header) (scale k : ℕ) (g z digits : List ℤ) → State
state_of busy h scale k g z digits = record { busy = busy; header = h; scale = scale; k = k; g = g; z = z; digits = digits }

-- ---- a mark for each row that has a digit beyond a bound: all rows of a step are looked at together

-- row i has a mark
abbrev pub mark_of : List ℕ → ℕ → Bool
mark_of m i = ltb 0 (get_or m i 0)

-- row i's digits of the steps after the first j, up to the e-th, are within the bound
abbrev pub RowWithin : (bound : ℕ) (ds : List ℤ) (j e i : ℕ) → Type 0
RowWithin bound ds j e i = (t : ℕ) → j ≤ t → t < e → nat_abs (entry ds t i) ≤ bound

-- each of the 16 rows is without a mark exactly when its digits are, for row i up to the step `last i`
pub record RowsBeyond (bound : ℕ) (ds : List ℤ) (j : ℕ) (last : ℕ → ℕ) (m : List ℕ) : Type 0 where
  pub size : length m ≡ 16
  pub unmarked : (i : ℕ) → i < 16 → (mark_of m i ≡ false) ↔ RowWithin bound ds j (last i) i
