-- Lists that agree where it matters: what the calls on states that agree below the order need.
use mathlib.Core.Path.{◌≡◌, refl, sym, ◌∙◌}
use mathlib.Core.Bool.{cond}
use mathlib.Core.List.{List, [], ◌∷◌}
use mathlib.Core.Logic.{◌⊎◌, inl, inr}
use Prim.Native.Nat.{ℕ, zero, suc, ◌+◌, ◌<◌, ◌≤◌}
use native.Mathlib.Omega.{arith}
use borrow.Author.Tests.{lt-ltb, le-ltb}
use lib.Dec.{ltb}
use lib.IntN.{ℤ, pos}
use lib.ListN.{length, set}
use Rattle.integers.specs.Flat.{at, list_from, flat_vector, stores}
use Rattle.integers.proofs.Stores.{length-stores}
use Rattle.integers.proofs.Maximum.{le_or_lt}

-- a list of f's values is one of any function that has the same
pub list_from_alike : (i k : ℕ) (f g : ℕ → ℤ) → ((t : ℕ) → i ≤ t → t < i + k → f t ≡ g t) → list_from i k f ≡ list_from i k g
unfolding list_from
list_from_alike i zero f g h = refl
list_from_alike i (suc k) f g h = rw (h i (omega arith) (omega arith), list_from_alike (suc i) k f g (λ t a b. h t (omega arith) (omega arith)))

-- so is a vector of n rows
pub flat_vector_alike : (n : ℕ) (B C : ℕ → ℤ) → ((i : ℕ) → i < n → B i ≡ C i) → flat_vector n B ≡ flat_vector n C
flat_vector_alike n B C h =
    list_from_alike 0 16 (λ i. cond (ltb i n) (B i) (pos 0)) (λ i. cond (ltb i n) (C i) (pos 0)) (λ i a b. by_row i (le_or_lt n i))
  where
    by_row : (i : ℕ) → (n ≤ i) ⊎ (i < n) → cond (ltb i n) (B i) (pos 0) ≡ cond (ltb i n) (C i) (pos 0)
    by_row i (inl l) = rw (le-ltb i n l)
    by_row i (inr l) = rw (lt-ltb i n l) (h i l)

-- two lists of one length that have the same number at a place m still do after the same numbers are stored
set_alike : (a b : List ℤ) (p : ℕ) (x : ℤ) (m : ℕ) → length a ≡ length b → at a m ≡ at b m → at (set a p x) m ≡ at (set b p x) m
set_alike [] [] p x m size e = refl
set_alike (c ∷ a) [] p x m size e = absurd (omega arith)
set_alike [] (d ∷ b) p x m size e = absurd (omega arith)
set_alike (c ∷ a) (d ∷ b) zero x zero size e = refl
set_alike (c ∷ a) (d ∷ b) zero x (suc m) size e = e
set_alike (c ∷ a) (d ∷ b) (suc p) x zero size e = e
set_alike (c ∷ a) (d ∷ b) (suc p) x (suc m) size e = set_alike a b p x m (omega arith) e

pub stores_alike : (a b : List ℤ) (place : ℕ → ℕ) (f g : ℕ → ℤ) (k m : ℕ) → length a ≡ length b → ((t : ℕ) → t < k → f t ≡ g t) → at a m ≡ at b m
    → at (stores a place f k) m ≡ at (stores b place g k) m
unfolding stores
stores_alike a b place f g zero m size same e = e
stores_alike a b place f g (suc k) m size same e =
    rw (same k (omega arith)) (set_alike (stores a place f k) (stores b place g k) (place k) (g k) m
    (length-stores a place f k ∙ size ∙ sym (length-stores b place g k)) (stores_alike a b place f g k m size (λ t l. same t (omega arith)) e))
