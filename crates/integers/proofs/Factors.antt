-- Laws of products over the indices below n, also with one factor left out. Cited by the value of a sum of
-- quotients.
use mathlib.Core.Path.{◌≡◌, refl, ◌∙◌}
use mathlib.Core.Logic.{◌⊎◌, inl, inr}
use Prim.Native.Nat.{ℕ, zero, suc, ◌<◌, ◌≤◌}
use native.Mathlib.Omega.{arith}
use borrow.Author.Tests.{eq-eqb, ne_eqb}
use lib.IntN.{ℤ, pos, ◌*ℤ◌, *ℤ_comm}
use lib.Signed.{◌<ℤ◌}
use Rattle.integers.proofs.Maximum.{le_or_lt}
use Rattle.integers.proofs.Order.{zarith, mul_positive}
use Rattle.integers.proofs.Ring.{*ℤ-assoc, *ℤ-one}
use Rattle.integers.specs.Sum.{product, product_without}

product_ext : (n : ℕ) (f g : ℕ → ℤ) → ((j : ℕ) → j < n → f j ≡ g j) → product n f ≡ product n g
unfolding product
product_ext zero f g h = refl
product_ext (suc n) f g h = rw (product_ext n f g (λ j l. h j (omega arith)), h n (omega arith))

pub product-suc : (n : ℕ) (f : ℕ → ℤ) → product (suc n) f ≡ product n f *ℤ f n
unfolding product
product-suc n f = refl

-- one factor more: that one left out, and one before it
pub without_last : (n : ℕ) (f : ℕ → ℤ) → product_without (suc n) n f ≡ product n f
unfolding product product_without
without_last n f =
    rw (eq-eqb n n refl) (*ℤ-one (product n _) ∙ product_ext n _ f (λ j l. rw (ne_eqb j n (λ e. omega arith))))

pub without_suc : (n i : ℕ) (f : ℕ → ℤ) → i < n → product_without (suc n) i f ≡ product_without n i f *ℤ f n
unfolding product product_without
without_suc n i f l = rw (ne_eqb n i (λ e. omega arith))

-- one factor and the others
pub product_split : (n i : ℕ) (f : ℕ → ℤ) → i < n → product n f ≡ f i *ℤ product_without n i f
product_split zero i f h = absurd (omega arith)
product_split (suc n) i f h = rw (product-suc n f) (by_case (le_or_lt n i) (product_split n i f))
  where
    by_case : (n ≤ i) ⊎ (i < n) → (i < n → product n f ≡ f i *ℤ product_without n i f) → product n f *ℤ f n ≡ f i *ℤ product_without (suc n) i f
    by_case (inl l) ih = let e : i ≡ n = omega arith in rw (e, without_last n f) (*ℤ_comm (product n f) (f n))
    by_case (inr l) ih = rw (ih l, without_suc n i f l) (*ℤ-assoc (f i) (product_without n i f) (f n))

pub product_positive : (n : ℕ) (f : ℕ → ℤ) → ((j : ℕ) → j < n → pos 0 <ℤ f j) → pos 0 <ℤ product n f
unfolding product
product_positive zero f h = omega zarith
product_positive (suc n) f h = mul_positive (product_positive n f (λ j l. h j (omega arith))) (h n (omega arith))
