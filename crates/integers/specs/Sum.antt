-- Sums over the indices below n, and what is made of them: the product of a row with a vector, and the weight
-- of a row. Rows and vectors are functions of a column, of which the columns below n count. And products over
-- the indices below n, powers of a whole number, and a bound on one.
use Rattle.std.specs.Prelude.{cond, ℕ, zero, suc, ◌+◌, ◌≤◌}
use lib.{Dec.eqb, IntN.ℤ, IntN.pos, IntN.nat_abs, IntN.◌+ℤ◌, IntN.◌*ℤ◌}

-- f 0 + f 1 + .. + f (n - 1), of whole numbers and of natural numbers
unfoldable pub sum : ℕ → (ℕ → ℤ) → ℤ
sum zero f = pos 0
sum (suc n) f = sum n f +ℤ f n

unfoldable pub total : ℕ → (ℕ → ℕ) → ℕ
total zero f = 0
total (suc n) f = total n f + f n

-- Σ g j · d j over the columns j below n
unfoldable pub dot : (n : ℕ) (g d : ℕ → ℤ) → ℤ
dot n g d = sum n (λ j. g j *ℤ d j)

-- Σ |g j| over the columns j below n: document 01's weight of a row
unfoldable pub weight : ℕ → (ℕ → ℤ) → ℕ
weight n g = total n (λ j. nat_abs (g j))

-- f 0 · f 1 · .. · f (n - 1), and the same without the factor f i
unfoldable pub product : ℕ → (ℕ → ℤ) → ℤ
product zero f = pos 1
product (suc n) f = product n f *ℤ f n

unfoldable pub product_without : (n i : ℕ) (f : ℕ → ℤ) → ℤ
product_without n i f = product n (λ j. cond (eqb j i) (pos 1) (f j))

-- x to the k
infixr 8 ◌^ℤ◌
abbrev pub ◌^ℤ◌ : ℤ → ℕ → ℤ
x ^ℤ zero = pos 1
x ^ℤ suc k = x *ℤ x ^ℤ k

-- |z| ≤ B. A record, so that a proof need not name z and B
pub record Within (z : ℤ) (B : ℕ) : Type 0 where
  pub abs : nat_abs z ≤ B
