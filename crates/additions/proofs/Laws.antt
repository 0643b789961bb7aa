-- Laws of the additions that steps cost, over a matrix and the digits of any steps: the same count made by
-- columns, what it depends on, and how large it can be. Cited by `Theorems` and by the crate stepping.
use mathlib.Core.Path.{◌≡◌, sym, ◌∙◌}
use mathlib.Core.Bool.{Bool, true, false, cond}
use Prim.Native.Nat.{ℕ, suc, ◌+◌, ◌*◌, ◌<◌, ◌≤◌}
use native.Mathlib.Nat.{mul_comm, mul-zero, mul-le-mul_left}
use native.Mathlib.Omega.{arith}
use lib.Dec.{eqb}
use lib.IntN.{ℤ, pos, nat_abs}
use Rattle.integers.specs.Sum.{total}
use Rattle.integers.proofs.Sum.{total-zero, total-suc, total_ext, total-scale, total_head, total-none, total_swap, total_mono, total_le}
use Rattle.additions.specs.Additions.{nonzero, step_additions, additions, entries, ZeroAtFirst}

-- ---- one number

pub nonzero-most : (z : ℤ) → nonzero z ≤ 1
nonzero-most z = by_test (eqb (nat_abs z) 0)
  where
    by_test : (b : Bool) → cond b 0 1 ≤ 1
    by_test true = omega arith
    by_test false = omega arith

-- ---- column by column

-- how many entries of column j are other than 0
abbrev pub column_entries : (n : ℕ) (G : ℕ → ℕ → ℤ) (j : ℕ) → ℕ
column_entries n G j = total n (λ i. nonzero (G i j))

module _ (n : ℕ) (G : ℕ → ℕ → ℤ) where
  pub entries_by_columns : entries n G ≡ total n (column_entries n G)
  unfolding entries
  entries_by_columns = total_swap n n (λ i j. nonzero (G i j))

  -- a column whose digit is other than 0 costs its entries
  pub step_by_columns : (d : ℕ → ℤ) → step_additions n G d ≡ total n (λ j. nonzero (d j) * column_entries n G j)
  unfolding step_additions
  step_by_columns d =
      total_swap n n (λ i j. nonzero (G i j) * nonzero (d j))
      ∙ total_ext n _ _ (λ j l. total-scale n (λ i. nonzero (G i j)) (nonzero (d j)) ∙ mul_comm (column_entries n G j) (nonzero (d j)))

-- m steps cost a column's entries as often as the column's digit is other than 0
pub by_columns : (n m : ℕ) (G : ℕ → ℕ → ℤ) (D : ℕ → ℕ → ℤ)
    → total n (λ j. total m (λ t. nonzero (D t j)) * column_entries n G j) ≡ total m (λ t. step_additions n G (D t))
by_columns n m G D =
    total_ext n _ _ (λ j l. sym (total-scale m (λ t. nonzero (D t j)) (column_entries n G j)))
    ∙ total_swap n m (λ j t. nonzero (D t j) * column_entries n G j)
    ∙ total_ext m _ _ (λ t l. sym (step_by_columns n G (D t)))

-- ---- only what stands below n counts

pub step_additions_ext : (n : ℕ) (G H : ℕ → ℕ → ℤ) (d e : ℕ → ℤ) → ((i j : ℕ) → i < n → j < n → G i j ≡ H i j) → ((j : ℕ) → j < n → d j ≡ e j)
    → step_additions n G d ≡ step_additions n H e
unfolding step_additions
step_additions_ext n G H d e g h = total_ext n _ _ (λ i l. total_ext n _ _ (λ j m. rw (g i j l m, h j m)))

-- ---- how large they are

module _ (n : ℕ) (G : ℕ → ℕ → ℤ) where
  pub entries_square : entries n G ≤ n * n
  unfolding entries
  entries_square = total_le n _ n (λ i l. omega (arith, total_le n _ 1 (λ j m. nonzero-most (G i j))))

  module _ (d : ℕ → ℤ) where
    pub step_additions-none : ((j : ℕ) → j < n → d j ≡ pos 0) → step_additions n G d ≡ 0
    unfolding step_additions
    step_additions-none h = total-none n _ (λ i l. total-none n _ (λ j m. rw (h j m) (mul-zero (nonzero (G i j)))))

    pub step_additions-entries : step_additions n G d ≤ entries n G
    unfolding step_additions entries
    step_additions-entries = total_mono n _ _ (λ i l. total_mono n _ _ (λ j m. omega (arith, mul-le-mul_left (nonzero (G i j)) (nonzero-most (d j)))))

    pub step_additions-most : step_additions n G d ≤ n * n
    step_additions-most = omega (arith, step_additions-entries, entries_square)

  module _ (d : ℕ → ℕ → ℤ) where
    pub additions-zero : additions n G d 0 ≡ 0
    unfolding additions
    additions-zero = total-zero (λ j. step_additions n G (d j))

    pub additions-suc : (k : ℕ) → additions n G d (suc k) ≡ additions n G d k + step_additions n G (d k)
    unfolding additions
    additions-suc k = total-suc k (λ j. step_additions n G (d j))

    pub additions_square : (k : ℕ) → additions n G d k ≤ k * (n * n)
    unfolding additions
    additions_square k = total_le k _ (n * n) (λ j l. step_additions-most (d j))

    -- the first step has none, and each later one at most the entries of G
    pub additions-after_first : (k : ℕ) → ZeroAtFirst n d → additions n G d (suc k) ≤ k * entries n G
    unfolding additions
    additions-after_first k h =
        omega (
          arith,
          total_head k (λ j. step_additions n G (d j)),
          step_additions-none (d 0) h,
          total_le k (λ j. step_additions n G (d (suc j))) (entries n G) (λ j l. step_additions-entries (d (suc j))),
        )
