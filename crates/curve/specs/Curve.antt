-- The value of a curve as a fraction P / Q of whole numbers, and what is promised of it (document 01, "The
-- system" and "One step"). Sums of quotients are curves too; their P and Q stand in Quotients.antt.
-- proofs/Value.antt proves each statement, proofs/Examples.antt and ExampleQuotients.antt spell them out.
use mathlib.Core.{Path.◌≡◌, Bool.Bool, Bool.true, Bool.false, List.List}
use Rattle.std.specs.Prelude.{ℕ, suc, ◌*◌, ◌-◌, ◌<◌, ◌≤◌}
use lib.{IntN.ℤ, IntN.pos, IntN.◌+ℤ◌, IntN.◌*ℤ◌, Signed.◌<ℤ◌}
use Rattle.integers.specs.Sum.{◌^ℤ◌, weight, sum}
use Rattle.job.specs.Kind.{Kind, polynomial, rational, system, quotients, unused}
use Rattle.system.specs.System.{past_first, curve_entry, argument, numerator, denominator, no_denominator, coefficient, subtrahend, quotients_entry, matrix, right_side}
use Rattle.recurrence.specs.Recurrence.{Solves}
use Rattle.curve.specs.Quotients.{quotients_over, quotients_under}

-- The numbers x, p_i and q_i are in units of 1/u: they stand for x/u, p_i/u and q_i/u. So a rational curve is
--
--     p_0/u + (p_1/u) (x/u) + .. + (p_(n-1)/u) (x/u)^(n-1)
--   -------------------------------------------------------
--       1   + (q_1/u) (x/u) + .. + (q_(n-1)/u) (x/u)^(n-1)
--
-- and P and Q are what stands above and below the line, both times u^n, which makes them whole.

-- p_0 u^(n-1) + p_1 x u^(n-2) + .. + p_(n-1) x^(n-1)
unfoldable pub numerator_value : (u : ℕ) (x : ℤ) (p : ℕ → ℤ) (n : ℕ) → ℤ
numerator_value u x p n = sum n (λ i. p i *ℤ x ^ℤ i *ℤ pos u ^ℤ (n - suc i))

-- u^n + q_1 x u^(n-2) + .. + q_(n-1) x^(n-1). The u^n is q_0, which is 1 and is not sent; the sum has 0 in
-- its place.
unfoldable pub denominator_value : (u : ℕ) (x : ℤ) (q : ℕ → ℤ) (n : ℕ) → ℤ
denominator_value u x q n = pos u ^ℤ n +ℤ sum n (λ i. past_first q i *ℤ x ^ℤ i *ℤ pos u ^ℤ (n - suc i))

-- ---- by the kind, for the numbers v at order n

-- the kinds whose first row has such a value
abbrev pub has_value : Kind → Bool
has_value polynomial = true
has_value rational = true
has_value system = false
has_value quotients = true
has_value unused = false

-- P and Q
abbrev pub value_over : (kind : Kind) (n u : ℕ) (v : List ℤ) → ℤ
value_over polynomial n u v = numerator_value u (argument v) (numerator v) n
value_over rational n u v = numerator_value u (argument v) (numerator v) n
value_over system n u v = pos 0
value_over quotients n u v = quotients_over u (coefficient v) (right_side quotients n v) (subtrahend v) n
value_over unused n u v = pos 0

abbrev pub value_under : (kind : Kind) (n u : ℕ) (v : List ℤ) → ℤ
value_under polynomial n u v = denominator_value u (argument v) no_denominator n
value_under rational n u v = denominator_value u (argument v) (denominator n v) n
value_under system n u v = pos 1
value_under quotients n u v = quotients_under u (subtrahend v) n
value_under unused n u v = pos 1

-- ---- what is said of a system

-- The value of row 1 is P / Q, in the system of order n with matrix G and right-hand sides B, in units of
-- 1/u. Rows count from 0 here, so document 01's row 1 is row 0.
pub record CurveValue (n u : ℕ) (G : ℕ → ℕ → ℤ) (B : ℕ → ℤ) (P Q : ℤ) : Type 0 where
  -- P / Q is a fraction
  pub denominator_positive : pos 0 <ℤ Q
  -- in every solution row 1's N / D is P / Q
  pub value : (N : ℕ → ℤ) (D : ℕ) → Solves n u D G B N → Q *ℤ N 0 ≡ P *ℤ pos D
  -- there is a solution
  pub solution : ℕ → ℤ
  pub solution_under : ℕ
  pub under_positive : 0 < solution_under
  pub solved : Solves n u solution_under G B solution

-- Every row weighs at most 1/4, as a light row does. At order 1 the matrix is 0, whatever x is.
abbrev pub ShortRows : (n u : ℕ) (G : ℕ → ℕ → ℤ) → Type 0
ShortRows n u G = (i : ℕ) → i < n → 4 * weight n (G i) ≤ u

-- ---- claim C8: row 1 has the curve's value, at every order

-- a rational curve
abbrev pub RationalValue : Type 0
RationalValue = (u : ℕ) (x : ℤ) (p q : ℕ → ℤ) (n : ℕ) → 0 < u → 0 < n → ShortRows n u (curve_entry x q) →
    CurveValue n u (curve_entry x q) p (numerator_value u x p n) (denominator_value u x q n)

-- A polynomial has no denominator: Q is u^n, by which P is made whole, so P / Q is p_0 + p_1 x + .. itself.
abbrev pub PolynomialValue : Type 0
PolynomialValue = (u : ℕ) (x : ℤ) (p : ℕ → ℤ) (n : ℕ) → 0 < u → 0 < n → ShortRows n u (curve_entry x no_denominator) →
    CurveValue n u (curve_entry x no_denominator) p (numerator_value u x p n) (pos u ^ℤ n)

-- a sum of quotients, whose right-hand sides a are c_0 and the a_i
abbrev pub QuotientsValue : Type 0
QuotientsValue = (u : ℕ) (c a b : ℕ → ℤ) (n : ℕ) → 0 < u → 0 < n → ShortRows n u (quotients_entry c b) →
    CurveValue n u (quotients_entry c b) a (quotients_over u c a b n) (quotients_under u b n)

-- the numbers v of every kind that has a value
abbrev pub KindValue : Type 0
KindValue = (kind : Kind) (n u : ℕ) (v : List ℤ) → has_value kind ≡ true → 0 < u → 0 < n → ShortRows n u (matrix kind n u v) →
    CurveValue n u (matrix kind n u v) (right_side kind n v) (value_over kind n u v) (value_under kind n u v)
