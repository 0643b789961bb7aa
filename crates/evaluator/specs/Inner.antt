-- What the contracts of inner functions cite; a reader of the promises can skip it. What a row's digits have
-- to keep for its reading to fit 64 bits: each is within r - 1, so the reading of k steps is below r^k.
use Rattle.std.specs.Prelude.{ℕ, ◌-◌, ◌*◌, ◌^◌, ◌<◌, ◌≤◌, List, ℤ, nat_abs}
use Rattle.integers.specs.Flat.{entry}
use Rattle.job.specs.{Header.digit_bits, Header.Limits, declared.Header.Header}

-- row i may be read at step k
pub record MayRead (ds : List ℤ) (i k r : ℕ) : Type 0 where
  pub row : i < 16
  pub steps : k ≤ 60
  pub radix_least : 1 ≤ r
  pub radix_most : r ≤ 16
  pub room : r ^ k ≤ 2 ^ 60
  pub digits : (t : ℕ) → t < k → nat_abs (entry ds t i) ≤ r - 1

-- all rows of a job may
pub record MayReadRows (h : Header) (k : ℕ) (ds : List ℤ) : Type 0 where
  pub limits : Limits h
  pub bits : k * digit_bits h.code ≤ 60
  pub made : (t i : ℕ) → t < k → i < h.n → nat_abs (entry ds t i) ≤ h.p
