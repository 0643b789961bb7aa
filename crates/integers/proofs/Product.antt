-- Laws of the product of a row with a vector, and of the weight of a row.
use mathlib.Core.Path.{◌≡◌, ◌∙◌}
use mathlib.Core.List.{[], ◌∷◌}
use Prim.Native.Nat.{ℕ, zero, suc, ◌+◌, ◌*◌, ◌<◌, ◌≤◌}
use native.Mathlib.Omega.{arith}
use lib.IntN.{ℤ, pos, nat_abs, ◌+ℤ◌, ◌*ℤ◌, *ℤ-zero}
use Rattle.integers.proofs.Absolute.{abs-mul}
use Rattle.integers.proofs.Normal.{solve, polys}
use Rattle.integers.proofs.Ring.{*ℤ-assoc}
use Rattle.integers.proofs.Sum.{sum-zero, sum-suc, total-zero, total-suc, sum_lin, sum-scale, sum_ext, total_ext, sum-none, abs-sum-mul, total_le, term_le_total}
use Rattle.integers.specs.Sum.{dot, weight}

pub dot-zero : (g d : ℕ → ℤ) → dot 0 g d ≡ pos 0
unfolding dot
dot-zero g d = sum-zero (λ j. g j *ℤ d j)

pub dot-suc : (n : ℕ) (g d : ℕ → ℤ) → dot (suc n) g d ≡ dot n g d +ℤ g n *ℤ d n
unfolding dot
dot-suc n g d = sum-suc n (λ j. g j *ℤ d j)

pub weight-zero : (g : ℕ → ℤ) → weight 0 g ≡ 0
unfolding weight
weight-zero g = total-zero (λ j. nat_abs (g j))

pub weight-suc : (n : ℕ) (g : ℕ → ℤ) → weight (suc n) g ≡ weight n g + nat_abs (g n)
unfolding weight
weight-suc n g = total-suc n (λ j. nat_abs (g j))

-- only the columns below n count
pub dot_ext : (n : ℕ) (g g' d d' : ℕ → ℤ) → ((j : ℕ) → j < n → g j ≡ g' j) → ((j : ℕ) → j < n → d j ≡ d' j) → dot n g d ≡ dot n g' d'
unfolding dot
dot_ext n g g' d d' h k = sum_ext n (λ j. g j *ℤ d j) (λ j. g' j *ℤ d' j) (λ j l. rw (h j l, k j l))

pub weight_ext : (n : ℕ) (g g' : ℕ → ℤ) → ((j : ℕ) → j < n → g j ≡ g' j) → weight n g ≡ weight n g'
unfolding weight
weight_ext n g g' h = total_ext n (λ j. nat_abs (g j)) (λ j. nat_abs (g' j)) (λ j l. rw (h j l))

-- a combination of two vectors
pub dot_lin : (n : ℕ) (g a b y : ℕ → ℤ) (s t : ℤ) → ((j : ℕ) → j < n → y j ≡ s *ℤ a j +ℤ t *ℤ b j) → dot n g y ≡ s *ℤ dot n g a +ℤ t *ℤ dot n g b
unfolding dot
dot_lin n g a b y s t h =
    sum_lin n (λ j. g j *ℤ a j) (λ j. g j *ℤ b j) (λ j. g j *ℤ y j) s t (λ j l. rw (h j l) (spread (g j) (a j) (b j)))
  where
    spread : (g a b : ℤ) → g *ℤ (s *ℤ a +ℤ t *ℤ b) ≡ s *ℤ (g *ℤ a) +ℤ t *ℤ (g *ℤ b)
    spread g a b = solve (g ∷ a ∷ b ∷ s ∷ t ∷ []) (search polys depth 14) (search polys depth 14) tt

-- a row times a number
pub dot-scale : (n : ℕ) (c : ℤ) (g d : ℕ → ℤ) → dot n (λ j. c *ℤ g j) d ≡ c *ℤ dot n g d
unfolding dot
dot-scale n c g d = sum_ext n (λ j. c *ℤ g j *ℤ d j) (λ j. c *ℤ (g j *ℤ d j)) (λ j l. *ℤ-assoc c (g j) (d j)) ∙ sum-scale n c (λ j. g j *ℤ d j)

pub weight-scale : (n c : ℕ) (g : ℕ → ℤ) → weight n (λ j. pos c *ℤ g j) ≡ c * weight n g
weight-scale zero c g = rw (weight-zero (λ j. pos c *ℤ g j), weight-zero g) (omega arith)
weight-scale (suc n) c g =
    rw (weight-suc n (λ j. pos c *ℤ g j), weight-suc n g, weight-scale n c g, abs-mul (pos c) (g n)) (omega arith)

pub dot-none : (n : ℕ) (g d : ℕ → ℤ) → ((j : ℕ) → j < n → d j ≡ pos 0) → dot n g d ≡ pos 0
unfolding dot
dot-none n g d h = sum-none n (λ j. g j *ℤ d j) (λ j l. rw (h j l, *ℤ-zero (g j)))

-- |Σ g j · d j| ≤ (Σ |g j|) B
pub abs-dot : (n : ℕ) (g d : ℕ → ℤ) (B : ℕ) → ((j : ℕ) → j < n → nat_abs (d j) ≤ B) → nat_abs (dot n g d) ≤ weight n g * B
unfolding dot weight
abs-dot n g d B h = abs-sum-mul n g d B h

pub weight_le : (n : ℕ) (g : ℕ → ℤ) (A : ℕ) → ((j : ℕ) → j < n → nat_abs (g j) ≤ A) → weight n g ≤ n * A
unfolding weight
weight_le n g A h = total_le n (λ j. nat_abs (g j)) A h

-- an entry weighs at most what its row does
pub entry_le_weight : (n : ℕ) (g : ℕ → ℤ) (j : ℕ) → j < n → nat_abs (g j) ≤ weight n g
unfolding weight
entry_le_weight n g j h = term_le_total n (λ j. nat_abs (g j)) j h
