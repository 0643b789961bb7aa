-- The kinds of a job (document 01, "Job frame", and document 02, request 7). What differs from kind to kind
-- is said by clauses over them: here how many numbers a kind has, in the crate `system` its matrix and its
-- right-hand sides, in the crate `curve` the exact value of its first row, and in the crate `additions` how
-- many entries its matrix can have.
use Rattle.std.specs.Prelude.{Bool, true, false, ℕ, zero, suc, ◌+◌, ◌*◌, ◌-◌}

-- `unused` stands for every number past the table of kinds
pub data Kind : Type 0 where
  polynomial : Kind
  rational : Kind
  system : Kind
  quotients : Kind
  unused : Kind

-- the kind that a frame's number stands for
abbrev pub kind_of : ℕ → Kind
kind_of zero = polynomial
kind_of (suc zero) = rational
kind_of (suc (suc zero)) = system
kind_of (suc (suc (suc zero))) = quotients
kind_of (suc (suc (suc (suc k)))) = unused

abbrev pub is_unused : Kind → Bool
is_unused polynomial = false
is_unused rational = false
is_unused system = false
is_unused quotients = false
is_unused unused = true

-- how many numbers a kind has at order n: x and p_0 to p_(n-1); for a rational curve also q_1 to q_(n-1); for
-- a system n rows of n + 1; for a sum of quotients c_0, and c_i, a_i and b_i for each i from 1 to n - 1
abbrev pub count_of : Kind → ℕ → ℕ
count_of polynomial n = n + 1
count_of rational n = 2 * n
count_of system n = n * (n + 1)
count_of quotients n = 3 * n - 2
count_of unused n = 0

-- the most numbers that a job can have: those of a system of 16 rows
abbrev pub most_numbers : ℕ
most_numbers = 272
