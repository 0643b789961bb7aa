-- The theorems on the recurrence, over any radix r, largest digit p, unit u, matrix G, right-hand sides B
-- and residual bound c / e, which is 17/32 for the choice by an estimate. `Identity` and `Distance` hold of
-- every run, whatever rule chose its digits. Each has its proof in proofs/, `identity` that of `Identity` and
-- so on, for all that the statement names before its equals sign.
use mathlib.Core.{Path.◌≡◌, Logic.◌↔◌}
use Rattle.std.specs.Prelude.{ℕ, ◌*◌, ◌-◌, ◌^◌, ◌<◌, ◌≤◌}
use lib.{IntN.ℤ, IntN.pos, IntN.nat_abs, IntN.◌+ℤ◌, IntN.◌-ℤ◌, IntN.◌*ℤ◌, Signed.◌≤ℤ◌, Signed.◌<ℤ◌}
use Rattle.integers.specs.Sum.{dot}
use Rattle.job.specs.Rules.{bound_over, bound_under}
use Rattle.recurrence.specs.Recurrence.{Solves, Light, LightRows, WithinBounds, next_digit, next_residual, residual, digit, reading, digit_sum, Run, Selects, unit_parts, estimate, select}

-- The reading by Horner's rule is document 01's sum, of any digits.
abbrev pub ReadingSum : Type 0
ReadingSum = (r : ℕ) (d : ℕ → ℕ → ℤ) (k i : ℕ) → reading r d k i ≡ digit_sum r d k i

-- The steps by a rule of selection are a run.
abbrev pub StepsRun : Type 0
StepsRun =
    (n r u : ℕ) (sel : ℤ → ℤ) (G : ℕ → ℕ → ℤ) (B : ℕ → ℤ) →
    Run n r u G B (residual n r u sel G B) (digit n r u sel G B) (reading r (digit n r u sel G B))

-- r^k (b - A y) = z + G d, where A is the identity less G and y are the readings after k steps over r^k:
-- exact, for any digits whatever.
abbrev pub Identity : (n r u : ℕ) (G : ℕ → ℕ → ℤ) (B : ℕ → ℤ) (z d y : ℕ → ℕ → ℤ) → Type 0
Identity n r u G B z d y =
    Run n r u G B z d y →
    (k i : ℕ) → i < n → pos (r ^ k) *ℤ B i -ℤ (pos u *ℤ y k i -ℤ dot n (G i) (y k)) ≡ z k i +ℤ dot n (G i) (d k)

-- `Light` is the rule of light rows as the documents put it: in document 01 e and c are 2 and 1, and since
-- 3/14 they are 32 and 17.
abbrev pub LightRule : Type 0
LightRule =
    (r p u c e S : ℕ) → 1 ≤ r → c * (r - 1) ≤ e * p → Light r p u c e S ↔ (e * r * p * S ≤ u * (e * p - c * (r - 1)))

-- The estimate is w cut down to whole parts: it is never above w, and less than a part below it.
abbrev pub EstimateFloor : Type 0
EstimateFloor =
    (u : ℕ) (w : ℤ) → 0 < u →
    ((pos u *ℤ estimate u w) ≤ℤ (pos unit_parts *ℤ w)) × ((pos unit_parts *ℤ w) <ℤ (pos u *ℤ estimate u w +ℤ pos u))

-- The choice by the estimate is a rule of selection, with residuals within their bound.
abbrev pub SelectSelects : Type 0
SelectSelects = (p u : ℕ) → 0 < u → Selects p u bound_over bound_under (select p u)

-- Where the rows are light, a step by any rule that selects keeps the bounds,
abbrev pub BoundsKeptNext : (n r p u c e : ℕ) (sel : ℤ → ℤ) (G : ℕ → ℕ → ℤ) (z d : ℕ → ℤ) → Type 0
BoundsKeptNext n r p u c e sel G z d =
    Selects p u c e sel → LightRows n r p u c e G →
    WithinBounds n p u c e z d → WithinBounds n p u c e (next_residual n r u sel G z d) (next_digit n r sel G z d)

-- so from small right-hand sides they are kept after every step.
abbrev pub BoundsKept : (n r p u c e : ℕ) (sel : ℤ → ℤ) (G : ℕ → ℕ → ℤ) → Type 0
BoundsKept n r p u c e sel G =
    (B : ℕ → ℤ) → Selects p u c e sel → LightRows n r p u c e G → ((i : ℕ) → i < n → e * nat_abs (B i) ≤ c * u) →
    (k : ℕ) → WithinBounds n p u c e (residual n r u sel G B k) (digit n r u sel G B k)

-- |N / D - y| ≤ p / (r - 1) / r^k in every row, y being the readings after k steps over r^k: for every N
-- and D that solve the rows, and for any digits whatever that are within p at step k with residuals of at
-- most c / e. p / (r - 1) / r^k is what a digit p in every place after the k-th comes to.
abbrev pub Distance : (n r p u c e D : ℕ) (G : ℕ → ℕ → ℤ) (B N : ℕ → ℤ) (z d y : ℕ → ℕ → ℤ) → Type 0
Distance n r p u c e D G B N z d y =
    1 < r → 0 < c → 0 < e → 0 < u →
    LightRows n r p u c e G → Run n r u G B z d y → Solves n u D G B N → (k : ℕ) → WithinBounds n p u c e (z k) (d k) →
    (i : ℕ) → i < n → (r - 1) * nat_abs (N i *ℤ pos (r ^ k) -ℤ pos D *ℤ y k i) ≤ p * D

-- The same of the steps by `select`, with its residual bound.
abbrev pub SelectDistance : (n r p u D : ℕ) (G : ℕ → ℕ → ℤ) (B N : ℕ → ℤ) → Type 0
SelectDistance n r p u D G B N =
    1 < r → 0 < u → LightRows n r p u bound_over bound_under G →
    ((i : ℕ) → i < n → bound_under * nat_abs (B i) ≤ bound_over * u) → Solves n u D G B N →
    (k i : ℕ) → i < n → (r - 1) * nat_abs (N i *ℤ pos (r ^ k) -ℤ pos D *ℤ reading r (digit n r u (select p u) G B) k i) ≤ p * D
