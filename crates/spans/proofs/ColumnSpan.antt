-- The rows in which a column can have an entry other than 0. Cited by the proofs of `column_start`,
-- `column_end` and `column_span`, which calls them, and of `first_sums`.
use mathlib.Core.Path.{◌≡◌, refl, sym, ◌∙◌}
use mathlib.Core.List.{List}
use mathlib.Core.Logic.{◌⊎◌, inl, inr}
use Prim.Native.Nat.{ℕ, ◌+◌, ◌^◌, ◌<◌, ◌≤◌}
use native.Mathlib.Omega.{arith}
use lib.IntN.{ℤ, pos}
use lib.ListN.{length, get_or, set, length-set}
use lib.Seq.{get_or-set_same, get_or-set_other}
use lib.Signed.{mag}
use mir.Syntax.{w64}
use mir.Val.{of_z}
use Rattle.integers.proofs.Maximum.{le_or_lt}
use Rattle.column.specs.Column.{column, Zeros}
use Rattle.integers.proofs.Machine.{i64_kept}
use Rattle.spans.specs.Inner.{Start, End}

-- an entry whose bits are all 0
pub read_zero : (x : ℤ) → mag x < 2 ^ 63 → of_z w64 x ≡ 0 → x ≡ pos 0
read_zero x h e = sym (i64_kept x h) ∙ rw e refl

-- ---- rows of zeros

module _ (f : ℕ → ℤ) where
  -- none
  pub no_zeros : (a : ℕ) → Zeros f a a
  no_zeros a j l m = absurd (omega arith)

  -- one more, after them or before them
  pub zeros-after : {a b : ℕ} → Zeros f a b → f b ≡ pos 0 → Zeros f a (b + 1)
  zeros-after {a} {b} h e j l m = by_case (le_or_lt b j)
    where
      by_case : (b ≤ j) ⊎ (j < b) → f j ≡ pos 0
      by_case (inl k) = let same : j ≡ b = omega arith in rw same e
      by_case (inr k) = h j l k

  pub zeros-before : {a b : ℕ} (c : ℕ) → c + 1 ≡ a → Zeros f a b → f c ≡ pos 0 → Zeros f c b
  zeros-before {a} {b} c s h e j l m = by_case (le_or_lt a j)
    where
      by_case : (a ≤ j) ⊎ (j < a) → f j ≡ pos 0
      by_case (inl k) = h j k m
      by_case (inr k) = let same : j ≡ c = omega arith in rw same e

-- every row of a column
pub from_first : (n : ℕ) (g : List ℤ) (j : ℕ) → j < n → Start n g j 0
from_first n g j l = (omega arith, no_zeros (column g j) 0)

pub to_last : (n : ℕ) (g : List ℤ) (j : ℕ) → End n g j n
to_last n g j = (omega arith, no_zeros (column g j) n)

-- ---- what a loop over the columns finds for each column

-- v has a value for each column below i, and Q holds of it; past the list a value is z
pub record Found {A : Type 0} (z : A) (Q : ℕ → A → Type 0) (v : List A) (i : ℕ) : Type 0 where
  pub size : length v ≡ 16
  pub columns : (t : ℕ) → t < i → Q t (get_or v t z)

pub found_none : {A : Type 0} (z : A) (Q : ℕ → A → Type 0) (v : List A) → length v ≡ 16 → Found z Q v 0
found_none z Q v h = record { size = h; columns = λ t l. absurd (omega arith) }

pub found_next : {A : Type 0} {z : A} {Q : ℕ → A → Type 0} {v : List A} {i : ℕ} {x : A} → i < 16 → Found z Q v i → Q i x → Found z Q (set v i x) (i + 1)
found_next {A} {z} {Q} {v} {i} {x} l h q = record { size = length-set v i x ∙ h.size; columns = λ t m. by_case t m (le_or_lt i t) }
  where
    by_case : (t : ℕ) → t < i + 1 → (i ≤ t) ⊎ (t < i) → Q t (get_or (set v i x) t z)
    by_case t m (inl k) = let e : t ≡ i = omega arith in rw (e, get_or-set_same v i x z (omega (arith, h.size))) q
    by_case t m (inr k) = rw (get_or-set_other v i t x z (λ e. omega arith)) (h.columns t k)
