-- Where a function of an index below n is largest, and what it takes to speak of every index below n.
use mathlib.Core.Path.{◌≡◌, subst}
use mathlib.Core.Logic.{◌⊎◌, inl, inr}
use mathlib.Core.Bool.{Bool, true, false, not}
use Prim.Native.Nat.{ℕ, zero, suc, ◌<◌, ◌≤◌}
use native.Mathlib.Nat.{le_refl}
use native.Mathlib.Omega.{arith}
use lib.Dec.{T, leb, leb→le, nleb→lt}

pub le_or_lt : (a b : ℕ) → (a ≤ b) ⊎ (b < a)
le_or_lt a b = by_test (leb a b) (λ t. leb→le a b t) (λ t. nleb→lt a b t)
  where
    by_test : (c : Bool) → (T c → a ≤ b) → (T (not c) → b < a) → (a ≤ b) ⊎ (b < a)
    by_test true f g = inl (f tt)
    by_test false f g = inr (g tt)

-- what holds at n and at every index below n holds below n + 1
pub below_suc : (Q : ℕ → Type 0) (n : ℕ) → Q n → ((j : ℕ) → j < n → Q j) → (j : ℕ) → j < suc n → Q j
below_suc Q n h k j l = by_case (le_or_lt n j)
  where
    by_case : (n ≤ j) ⊎ (j < n) → Q j
    by_case (inl m) = let e : n ≡ j = omega arith in subst Q e h
    by_case (inr m) = k j m

-- an index below n at which f is largest
pub record Largest (n : ℕ) (f : ℕ → ℕ) : Type 0 where
  pub top : ℕ
  pub inside : top < n
  pub most : (j : ℕ) → j < n → f j ≤ f top

largest-suc : (n : ℕ) (f : ℕ → ℕ) → Largest (suc n) f
largest-suc zero f =
    record { top = 0; inside = omega arith; most = below_suc (λ i. f i ≤ f 0) 0 (le_refl (f 0)) (λ i m. absurd (omega arith)) }
largest-suc (suc n) f = by_case (largest-suc n f) (le_or_lt (f (suc n)) (f (largest-suc n f).top))
  where
    by_case : (m : Largest (suc n) f) → (f (suc n) ≤ f m.top) ⊎ (f m.top < f (suc n)) → Largest (suc (suc n)) f
    by_case m (inl h) = record { top = m.top; inside = omega (arith, m.inside); most = below_suc (λ i. f i ≤ f m.top) (suc n) h m.most }
    by_case m (inr h) =
        record { top = suc n; inside = omega arith; most = below_suc (λ i. f i ≤ f (suc n)) (suc n) (le_refl (f (suc n))) (λ i q. omega (arith, m.most i q)) }

-- there is one as soon as there is any index
pub largest_exists : (n : ℕ) (f : ℕ → ℕ) → 0 < n → Largest n f
largest_exists zero f h = absurd (omega arith)
largest_exists (suc n) f h = largest-suc n f
