-- The scale of a job (document 02, request 1): the smallest s, 0 or more, for which 2 × |B| is at most
-- 2^f × r^s for every right-hand side B. The job then runs on its right-hand sides divided by r^s.
use mathlib.Core.{Bool.Bool, Bool.true, Bool.cond, Bool.◌&&◌, List.List}
use Rattle.std.specs.Prelude.{ℕ, zero, suc, ◌+◌, ◌*◌, ◌^◌, ◌<◌, ◌≤◌}
use lib.{Dec.leb, IntN.ℤ, IntN.nat_abs}
use Rattle.job.specs.{Rules.inner_unit, Rules.most_scale, declared.Header.Header}
use Rattle.system.specs.System.{right_side_of}

-- a right-hand side B fits the scale s. At 0 this is document 01's "small enough"
abbrev pub small_enough : Header → ℕ → ℤ → Bool
small_enough h s B = leb (2 * nat_abs B) (inner_unit h s)

-- the test holds of every row below n
unfoldable pub every : ℕ → (ℕ → Bool) → Bool
every zero t = true
every (suc n) t = t n && every n t

-- every right-hand side fits the scale s
abbrev pub fits : Header → (ℕ → ℤ) → ℕ → Bool
fits h B s = every h.n (λ i. small_enough h s (B i))

-- The first of 0, 1 and 2 that fits. A frame's right-hand sides are at most 2, and for these 2 always fits,
-- so that this is the smallest number that does: `ScaleSmallest` below.
abbrev pub scale : Header → (ℕ → ℤ) → ℕ
scale h B = cond (fits h B 0) 0 (cond (fits h B 1) 1 2)

-- of the job with the header h and the numbers v
abbrev pub job_scale : Header → List ℤ → ℕ
job_scale h v = scale h (right_side_of h v)

-- ---- what is proved of it

-- some row does not fit t
pub record TooLarge (h : Header) (B : ℕ → ℤ) (t : ℕ) : Type 0 where
  pub row : ℕ
  pub inside : row < h.n
  pub large : inner_unit h t < 2 * nat_abs (B row)

-- s is the smallest number that every row fits: every row fits s, and at each smaller number some row does
-- not. It is at most 2 in radix 2, and at most 1 in every other.
pub record Smallest (h : Header) (B : ℕ → ℤ) (s : ℕ) : Type 0 where
  pub fit : (i : ℕ) → i < h.n → 2 * nat_abs (B i) ≤ inner_unit h s
  pub least : (t : ℕ) → t < s → TooLarge h B t
  pub most : s ≤ most_scale h.code

-- Where |B| is at most 2^(f+1), which the f + 2 bits of a number keep, the scale is the smallest number that
-- every row fits. Proved in proofs/Smallest.antt, as `scale-smallest`.
abbrev pub ScaleSmallest : Type 0
ScaleSmallest = (h : Header) (B : ℕ → ℤ) → ((i : ℕ) → i < h.n → nat_abs (B i) ≤ 2 ^ (h.f + 1)) → Smallest h B (scale h B)
