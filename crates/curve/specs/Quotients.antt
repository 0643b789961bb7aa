-- The value of a sum of quotients as a fraction P / Q of whole numbers (document 02, request 7).
use Rattle.std.specs.Prelude.{ℕ, zero, suc, ℤ, pos, ◌+ℤ◌, ◌-ℤ◌, ◌*ℤ◌}
use Rattle.integers.specs.Sum.{sum, product, product_without}
use Rattle.system.specs.System.{past_first}

-- The numbers c_i, a_i and b_i are in units of 1/u: they stand for c_i/u, a_i/u and b_i/u. So the sum is
--
--   c_0/u + (c_1/u) (a_1/u) / (1 - b_1/u) + .. + (c_(n-1)/u) (a_(n-1)/u) / (1 - b_(n-1)/u)
--
-- in which c_i a_i stands over u (u - b_i). P and Q are what stands above and below the line when all of it
-- is brought over u (u - b_1) .. (u - b_(n-1)). Here a has c_0 in the place of an a_0, as the right-hand
-- sides do.

-- u - b_i, by which a_i is divided; row 0 has no quotient
unfoldable pub divisor : (u : ℕ) (b : ℕ → ℤ) (i : ℕ) → ℤ
divisor u b zero = pos 1
divisor u b (suc i) = pos u -ℤ b (suc i)

-- P: c_0 times all divisors, and c_i a_i times all but the i-th, for each i from 1 to n - 1
unfoldable pub quotients_over : (u : ℕ) (c a b : ℕ → ℤ) (n : ℕ) → ℤ
quotients_over u c a b n = a 0 *ℤ product n (divisor u b) +ℤ sum n (λ i. past_first c i *ℤ a i *ℤ product_without n i (divisor u b))

-- Q: u times all divisors
unfoldable pub quotients_under : (u : ℕ) (b : ℕ → ℤ) (n : ℕ) → ℤ
quotients_under u b n = pos u *ℤ product n (divisor u b)
