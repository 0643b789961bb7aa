-- What the contracts of this crate's functions cite, which are all inner ones; a reader of the promises can
-- skip it. The unit of residuals is at most 2^44, a row's sum is within 2^48, and w within 2^49.
use Rattle.std.specs.Prelude.{List, ℕ, ◌+◌, ◌*◌, ◌^◌, ◌<◌, ◌≤◌, ℤ, pos, nat_abs, ◌+ℤ◌, ◌-ℤ◌, ◌*ℤ◌}
use Rattle.integers.specs.Flat.{at}
use Rattle.job.specs.Rules.{bound_over, bound_under}
use Rattle.recurrence.specs.Recurrence.{select}
use Rattle.choice.specs.declared.units.Units.{Units}

-- ---- the choice of one step, from the residuals z and the rows' sums s

-- document 01's w of row i, its digit, and the residual that this leaves
abbrev pub shifted_by : (u : Units) (z s : List ℤ) (i : ℕ) → ℤ
shifted_by u z s i = pos u.r *ℤ at z i +ℤ pos u.q *ℤ at s i

abbrev pub digit_from : (u : Units) (z s : List ℤ) (i : ℕ) → ℤ
digit_from u z s i = select u.p (2 ^ u.f) (shifted_by u z s i)

abbrev pub residual_from : (u : Units) (z s : List ℤ) (i : ℕ) → ℤ
residual_from u z s i = shifted_by u z s i -ℤ pos (2 ^ u.f) *ℤ digit_from u z s i

-- a digit may be chosen in row i: |w| is at most p units and the residual bound more
pub record MayChooseRow (u : Units) (z s : List ℤ) (i : ℕ) : Type 0 where
  pub radix : u.r ≤ 16
  pub units : u.q ≤ 256
  pub largest : u.p ≤ 15
  pub residual : nat_abs (at z i) ≤ 2 ^ 44
  pub sum : nat_abs (at s i) ≤ 2 ^ 48
  pub bound : bound_under * nat_abs (shifted_by u z s i) ≤ (bound_under * u.p + bound_over) * 2 ^ u.f

-- and in each row below n
pub record MayChoose (n : ℕ) (u : Units) (z s : List ℤ) : Type 0 where
  pub order : n ≤ 16
  pub rows : (i : ℕ) → i < n → MayChooseRow u z s i
