-- A law for every loop that fills an array: what an array holds after stores at places that differ.
use mathlib.Core.Path.{◌≡◌, refl, ◌∙◌}
use mathlib.Core.List.{List}
use mathlib.Core.Logic.{◌⊎◌, inl, inr}
use Prim.Native.Nat.{ℕ, zero, suc, ◌<◌, ◌≤◌}
use native.Mathlib.Omega.{arith}
use lib.IntN.{ℤ, pos}
use lib.ListN.{length, set, length-set}
use lib.Seq.{get_or-set_same, get_or-set_other}
use Rattle.integers.proofs.Maximum.{le_or_lt}
use Rattle.integers.specs.Flat.{at, stores}

pub stores-zero : (g : List ℤ) (place : ℕ → ℕ) (value : ℕ → ℤ) → stores g place value 0 ≡ g
unfolding stores
stores-zero g place value = refl

pub stores-suc : (g : List ℤ) (place : ℕ → ℕ) (value : ℕ → ℤ) (k : ℕ) → stores g place value (suc k) ≡ set (stores g place value k) (place k) (value k)
unfolding stores
stores-suc g place value k = refl

pub length-stores : (g : List ℤ) (place : ℕ → ℕ) (value : ℕ → ℤ) (k : ℕ) → length (stores g place value k) ≡ length g
unfolding stores
length-stores g place value zero = refl
length-stores g place value (suc k) = length-set (stores g place value k) (place k) (value k) ∙ length-stores g place value k

-- only the values that are stored count
pub stores_ext : (g : List ℤ) (place : ℕ → ℕ) (value other : ℕ → ℤ) (k : ℕ) → ((t : ℕ) → t < k → value t ≡ other t) → stores g place value k ≡ stores g place other k
unfolding stores
stores_ext g place value other zero e = refl
stores_ext g place value other (suc k) e = rw (stores_ext g place value other k (λ t l. e t (omega arith)), e k (omega arith)) refl

-- a place that none of them stores to
pub stores_other : (g : List ℤ) (place : ℕ → ℕ) (value : ℕ → ℤ) (k m : ℕ) → ((t : ℕ) → t < k → m ≡ place t → ⊥) → at (stores g place value k) m ≡ at g m
unfolding stores
stores_other g place value zero m h = refl
stores_other g place value (suc k) m h =
    get_or-set_other (stores g place value k) (place k) m (value k) (pos 0) (h k (omega arith))
    ∙ stores_other g place value k m (λ t l. h t (omega arith))

-- the place of the t-th, where no later one stores to it again
pub stores_at : (g : List ℤ) (place : ℕ → ℕ) (value : ℕ → ℤ) (k t : ℕ) → t < k → place t < length g → ((s : ℕ) → t < s → s < k → place t ≡ place s → ⊥)
    → at (stores g place value k) (place t) ≡ value t
unfolding stores
stores_at g place value zero t l b h = absurd (omega arith)
stores_at g place value (suc k) t l b h =
    by_case (le_or_lt k t) (λ q. stores_at g place value k t q b (λ s a c. h s a (omega arith)))
  where
    last : t ≡ k → at (set (stores g place value k) (place k) (value k)) (place t) ≡ value t
    last e =
        let c : place k < length g = rw e at b in
        rw e (get_or-set_same (stores g place value k) (place k) (value k) (pos 0) (rw (length-stores g place value k) c))

    by_case : (k ≤ t) ⊎ (t < k) → (t < k → at (stores g place value k) (place t) ≡ value t) → at (set (stores g place value k) (place k) (value k)) (place t) ≡ value t
    by_case (inl q) ih = last (omega arith)
    by_case (inr q) ih = get_or-set_other (stores g place value k) (place k) (place t) (value k) (pos 0) (h k q (omega arith)) ∙ ih q
