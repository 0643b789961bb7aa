-- The system of a job (document 01, "The system"): the matrix G, which is the identity less A, and the
-- right-hand sides b, of each kind, from the numbers as they are sent. All in units of 1/u, u being 2^f.
-- Rows, columns and coefficients count from 0, so document 01's row i is row i - 1 here.
use mathlib.Core.{Bool.cond, List.List}
use Rattle.std.specs.Prelude.{ℕ, zero, suc, ◌+◌, ◌*◌, ◌-◌}
use lib.{Dec.eqb, IntN.ℤ, IntN.pos, IntN.neg_ℤ, IntN.◌-ℤ◌, ListN.get_or}
use Rattle.job.specs.{Header.unit, Kind.Kind, Kind.polynomial, Kind.rational, Kind.system, Kind.quotients, Kind.unused, Kind.kind_of, declared.Header.Header}

-- the i-th number sent
abbrev pub sent : List ℤ → ℕ → ℤ
sent v i = get_or v i (pos 0)

-- numbers that count from 1, with 0 in the place of the first
abbrev pub past_first : (ℕ → ℤ) → ℕ → ℤ
past_first q zero = pos 0
past_first q (suc i) = q (suc i)

-- ---- a polynomial or a rational curve: x, then p_0 to p_(n-1), then for a rational curve q_1 to q_(n-1)

-- +x in the column after the diagonal, and -q_i in the first column of every row but the first. The last row
-- has no column for x, so at n = 1 the argument has no effect.
unfoldable pub curve_entry : (x : ℤ) (q : ℕ → ℤ) (i j : ℕ) → ℤ
curve_entry x q i zero = neg_ℤ (past_first q i)
curve_entry x q i (suc j) = cond (eqb j i) x (pos 0)

abbrev pub argument : List ℤ → ℤ
argument v = sent v 0

-- p_i
abbrev pub numerator : List ℤ → ℕ → ℤ
numerator v i = sent v (1 + i)

-- q_i of a rational curve of order n, for i from 1; q_0 is 1 and is not sent
abbrev pub denominator : ℕ → List ℤ → ℕ → ℤ
denominator n v i = sent v (n + i)

-- a polynomial is a rational curve whose q_i are 0
abbrev pub no_denominator : ℕ → ℤ
no_denominator i = pos 0

-- ---- a system: row by row, a_i1 to a_in and then b_i

unfoldable pub system_entry : (u n : ℕ) (v : List ℤ) (i j : ℕ) → ℤ
system_entry u n v i j = cond (eqb i j) (pos u) (pos 0) -ℤ sent v (i * (n + 1) + j)

-- ---- a sum of quotients, c_0 + Σ c_i a_i / (1 - b_i): c_0, then c_i, a_i and b_i together for i from 1

-- c_i and b_i, for i from 1; c_0 and the a_i are the right-hand sides
abbrev pub coefficient : List ℤ → ℕ → ℤ
coefficient v i = sent v (3 * i - 2)

abbrev pub subtrahend : List ℤ → ℕ → ℤ
subtrahend v i = sent v (3 * i)

-- c_j in the first row, in every column but the first, and b_i on the diagonal of every other row
unfoldable pub quotients_entry : (c b : ℕ → ℤ) (i j : ℕ) → ℤ
quotients_entry c b zero j = past_first c j
quotients_entry c b (suc i) j = cond (eqb j (suc i)) (b (suc i)) (pos 0)

-- ---- by the kind

-- the entry of G in row i and column j
unfoldable pub matrix : Kind → (n u : ℕ) (v : List ℤ) (i j : ℕ) → ℤ
matrix polynomial n u v = curve_entry (argument v) no_denominator
matrix rational n u v = curve_entry (argument v) (denominator n v)
matrix system n u v = system_entry u n v
matrix quotients n u v = quotients_entry (coefficient v) (subtrahend v)
matrix unused n u v = λ i j. pos 0

-- where among the numbers the right-hand side of row i stands
abbrev pub right_place : Kind → ℕ → ℕ → ℕ
right_place polynomial n i = 1 + i
right_place rational n i = 1 + i
right_place system n i = i * (n + 1) + n
right_place quotients n zero = 0
right_place quotients n (suc i) = 3 * suc i - 1
right_place unused n i = 0

-- the right-hand side of row i
unfoldable pub right_side : Kind → (n : ℕ) (v : List ℤ) (i : ℕ) → ℤ
right_side kind n v i = sent v (right_place kind n i)

-- ---- of the job with the header h and the numbers v

abbrev pub matrix_of : (h : Header) (v : List ℤ) (i j : ℕ) → ℤ
matrix_of h v = matrix (kind_of h.kind) h.n (unit h) v

abbrev pub right_side_of : Header → List ℤ → ℕ → ℤ
right_side_of h v = right_side (kind_of h.kind) h.n v
