-- The additions that steps cost (document 02, request 6), over a matrix G and the digits of the steps alone,
-- and the most that they can be. Rows and columns count from 0, and those below n count. proofs/ has a proof
-- of each statement, `first_step_none` that of `FirstStepNone` and so on.
use mathlib.Core.{Path.◌≡◌, Bool.cond, List.List}
use Rattle.std.specs.Prelude.{ℕ, ◌*◌, ◌-◌, ◌<◌, ◌≤◌}
use lib.{Dec.eqb, IntN.ℤ, IntN.pos, IntN.nat_abs}
use Rattle.integers.specs.Sum.{total}
use Rattle.job.specs.Kind.{Kind, polynomial, rational, system, quotients, unused}
use Rattle.system.specs.System.{matrix}

-- 1 for a number other than 0, and 0 for 0
abbrev pub nonzero : ℤ → ℕ
nonzero z = cond (eqb (nat_abs z) 0) 0 1

-- the additions of a step, d being the digits of the step before: the pairs of a row and a column where the
-- entry of G and the column's digit are both other than 0
unfoldable pub step_additions : (n : ℕ) (G : ℕ → ℕ → ℤ) (d : ℕ → ℤ) → ℕ
step_additions n G d = total n (λ i. total n (λ j. nonzero (G i j) * nonzero (d j)))

-- those of the first k steps, d j being the digits of step j, and d 0 those before the first step
unfoldable pub additions : (n : ℕ) (G : ℕ → ℕ → ℤ) (d : ℕ → ℕ → ℤ) (k : ℕ) → ℕ
additions n G d k = total k (λ j. step_additions n G (d j))

-- how many entries of G are other than 0
unfoldable pub entries : (n : ℕ) (G : ℕ → ℕ → ℤ) → ℕ
entries n G = total n (λ i. total n (λ j. nonzero (G i j)))

-- ---- what is proved of them: the digits before the first step are 0

abbrev pub ZeroAtFirst : (n : ℕ) (d : ℕ → ℕ → ℤ) → Type 0
ZeroAtFirst n d = (j : ℕ) → j < n → d 0 j ≡ pos 0

-- the first step has none
abbrev pub FirstStepNone : Type 0
FirstStepNone = (n : ℕ) (G : ℕ → ℕ → ℤ) (d : ℕ → ℕ → ℤ) → ZeroAtFirst n d → additions n G d 1 ≡ 0

-- the first k steps have at most (k - 1) × the entries of G other than 0, whatever the digits; k of 0, none
abbrev pub AdditionsMost : Type 0
AdditionsMost = (n : ℕ) (G : ℕ → ℕ → ℤ) (d : ℕ → ℕ → ℤ) (k : ℕ) → ZeroAtFirst n d → additions n G d k ≤ (k - 1) * entries n G

-- how many entries other than 0 the matrix of a job can have, by its kind
abbrev pub most_entries : Kind → ℕ → ℕ
most_entries polynomial n = n - 1
most_entries rational n = 2 * (n - 1)
most_entries system n = n * n
most_entries quotients n = 2 * (n - 1)
most_entries unused n = 0

abbrev pub EntriesMost : Type 0
EntriesMost = (kind : Kind) (n u : ℕ) (v : List ℤ) → entries n (matrix kind n u v) ≤ most_entries kind n
