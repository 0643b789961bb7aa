-- A list filled in the rows below n, and a vector of zeros: which row holds what. Cited by the proofs of the
-- functions that fill an array.
use mathlib.Core.Path.{◌≡◌, sym, subst}
use mathlib.Core.List.{List}
use mathlib.Core.Logic.{◌⊎◌, inl, inr}
use Prim.Native.Nat.{ℕ, ◌+◌, ◌<◌, ◌≤◌}
use native.Mathlib.Numerals.{add-one}
use native.Mathlib.Omega.{arith}
use lib.IntN.{ℤ, pos}
use lib.ListN.{length, set, replicate, get_or-replicate, get_or-eq_default}
use Rattle.integers.specs.Flat.{at, filled}
use Rattle.integers.proofs.Maximum.{le_or_lt}
use Rattle.integers.proofs.Stores.{stores-zero, stores-suc, length-stores, stores_other, stores_at}

-- ---- a list filled in the rows below n

module _ (f : ℕ → ℤ) (v : List ℤ) where
  pub filled_zero : filled f v 0 ≡ v
  filled_zero = stores-zero v (λ i. i) f

  -- a store in the next row
  pub filled_next : (i : ℕ) (l : List ℤ) (x : ℤ) → l ≡ filled f v i → x ≡ f i → set l i x ≡ filled f v (i + 1)
  filled_next i l x e h = rw (add-one, e, h) (sym (stores-suc v (λ i. i) f i))

  pub length-filled : (n : ℕ) → length (filled f v n) ≡ length v
  length-filled n = length-stores v (λ i. i) f n

  -- the rows from n on keep their values
  pub filled_past : (n i : ℕ) → n ≤ i → at (filled f v n) i ≡ at v i
  filled_past n i h = stores_other v (λ i. i) f n i (λ t l e. omega arith)

  -- the rows below n hold f's values
  pub filled_row : (n i : ℕ) → i < n → i < length v → at (filled f v n) i ≡ f i
  filled_row n i h l = stores_at v (λ i. i) f n i h l (λ t a b e. omega arith)

  -- what holds of f's values and of 0 holds of every row below n, whatever the length
  pub filled-each : (Q : ℤ → Type 0) (n : ℕ) → Q (pos 0) → ((i : ℕ) → i < n → Q (f i)) → (i : ℕ) → i < n → Q (at (filled f v n) i)
  filled-each Q n z h i l = by_case (le_or_lt (length v) i)
    where
      by_case : (length v ≤ i) ⊎ (i < length v) → Q (at (filled f v n) i)
      by_case (inl m) = subst Q (sym (get_or-eq_default (filled f v n) (pos 0) (omega (arith, length-filled n)))) z
      by_case (inr m) = subst Q (sym (filled_row n i l m)) (h i l)

-- ---- a vector of zeros

pub at-zeros : (i : ℕ) → at (replicate 16 (pos 0)) i ≡ pos 0
at-zeros i = by_case (le_or_lt 16 i)
  where
    by_case : (16 ≤ i) ⊎ (i < 16) → at (replicate 16 (pos 0)) i ≡ pos 0
    by_case (inl m) = get_or-eq_default (replicate 16 (pos 0)) (pos 0) m
    by_case (inr m) = get_or-replicate 16 i (pos 0) (pos 0) m
