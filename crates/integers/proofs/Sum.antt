-- Laws of sums over an index below n, of whole numbers (`sum`) and of natural numbers (`total`): linear, by
-- extension, split and swapped; how large they are; and sums with one or two terms other than 0.
use mathlib.Core.Path.{◌≡◌, refl, sym, ap, ap₂, ◌∙◌}
use mathlib.Core.List.{[], ◌∷◌}
use mathlib.Core.Logic.{◌⊎◌, inl, inr}
use Prim.Native.Nat.{ℕ, zero, suc, ◌+◌, ◌*◌, ◌<◌, ◌≤◌}
use native.Mathlib.Nat.{mul-le-mul_left}
use native.Mathlib.Omega.{arith}
use lib.IntN.{ℤ, pos, nat_abs, ◌+ℤ◌, ◌*ℤ◌, +ℤ_idl, +ℤ_idr, +ℤ_assoc}
use lib.Signed.{◌≤ℤ◌}
use Rattle.integers.proofs.Order.{zarith, le_add}
use Rattle.integers.proofs.Absolute.{abs-add, abs-mul}
use Rattle.integers.proofs.Normal.{solve, polys}
use Rattle.integers.proofs.Maximum.{le_or_lt}
use Rattle.integers.specs.Sum.{sum, total}

pub sum-zero : (f : ℕ → ℤ) → sum 0 f ≡ pos 0
unfolding sum
sum-zero f = refl

pub sum-suc : (n : ℕ) (f : ℕ → ℤ) → sum (suc n) f ≡ sum n f +ℤ f n
unfolding sum
sum-suc n f = refl

pub total-zero : (f : ℕ → ℕ) → total 0 f ≡ 0
unfolding total
total-zero f = refl

pub total-suc : (n : ℕ) (f : ℕ → ℕ) → total (suc n) f ≡ total n f + f n
unfolding total
total-suc n f = refl

-- ---- equations

-- only the terms below n count
pub sum_ext : (n : ℕ) (f g : ℕ → ℤ) → ((k : ℕ) → k < n → f k ≡ g k) → sum n f ≡ sum n g
unfolding sum
sum_ext zero f g h = refl
sum_ext (suc n) f g h = ap₂ (λ (x y : ℤ). x +ℤ y) (sum_ext n f g (λ k l. h k (omega arith))) (h n (omega arith))

pub total_ext : (n : ℕ) (f g : ℕ → ℕ) → ((k : ℕ) → k < n → f k ≡ g k) → total n f ≡ total n g
unfolding total
total_ext zero f g h = refl
total_ext (suc n) f g h = ap₂ (λ (x y : ℕ). x + y) (total_ext n f g (λ k l. h k (omega arith))) (h n (omega arith))

-- a combination of two sums
lin_step : (x a b y c d s t : ℤ) → x ≡ s *ℤ a +ℤ t *ℤ b → y ≡ s *ℤ c +ℤ t *ℤ d → x +ℤ y ≡ s *ℤ (a +ℤ c) +ℤ t *ℤ (b +ℤ d)
lin_step x a b y c d s t e f =
    rw (e, f) (solve (a ∷ b ∷ c ∷ d ∷ s ∷ t ∷ []) (search polys depth 14) (search polys depth 14) tt)

pub sum_lin : (n : ℕ) (f g h : ℕ → ℤ) (s t : ℤ) → ((k : ℕ) → k < n → h k ≡ s *ℤ f k +ℤ t *ℤ g k) → sum n h ≡ s *ℤ sum n f +ℤ t *ℤ sum n g
unfolding sum
sum_lin zero f g h s t e = solve (s ∷ t ∷ []) (search polys depth 9) (search polys depth 9) tt
sum_lin (suc n) f g h s t e =
    lin_step (sum n h) (sum n f) (sum n g) (h n) (f n) (g n) s t (sum_lin n f g h s t (λ k l. e k (omega arith))) (e n (omega arith))

pub sum-add : (n : ℕ) (f g : ℕ → ℤ) → sum n (λ k. f k +ℤ g k) ≡ sum n f +ℤ sum n g
sum-add n f g = sum_lin n f g (λ k. f k +ℤ g k) (pos 1) (pos 1) (λ k l. ones (f k) (g k)) ∙ sym (ones (sum n f) (sum n g))
  where
    ones : (a b : ℤ) → a +ℤ b ≡ pos 1 *ℤ a +ℤ pos 1 *ℤ b
    ones a b = solve (a ∷ b ∷ []) (search polys depth 9) (search polys depth 9) tt

pub sum-scale : (n : ℕ) (c : ℤ) (f : ℕ → ℤ) → sum n (λ k. c *ℤ f k) ≡ c *ℤ sum n f
sum-scale n c f = sum_lin n f f (λ k. c *ℤ f k) c (pos 0) (λ k l. once (f k)) ∙ sym (once (sum n f))
  where
    once : (a : ℤ) → c *ℤ a ≡ c *ℤ a +ℤ pos 0 *ℤ a
    once a = solve (c ∷ a ∷ []) (search polys depth 9) (search polys depth 9) tt

pub total-add : (n : ℕ) (f g : ℕ → ℕ) → total n (λ k. f k + g k) ≡ total n f + total n g
unfolding total
total-add zero f g = refl
total-add (suc n) f g = omega (arith, total-add n f g)

pub total-scale : (n : ℕ) (f : ℕ → ℕ) (c : ℕ) → total n (λ k. f k * c) ≡ total n f * c
unfolding total
total-scale zero f c = omega arith
total-scale (suc n) f c = omega (arith, total-scale n f c)

-- a total is the sum of the same numbers
pub sum-pos : (n : ℕ) (f : ℕ → ℕ) → sum n (λ k. pos (f k)) ≡ pos (total n f)
unfolding sum total
sum-pos zero f = refl
sum-pos (suc n) f = rw (sum-pos n f)

-- the terms below n, then the k terms from n on
pub sum_split : (n k : ℕ) (f : ℕ → ℤ) → sum (n + k) f ≡ sum n f +ℤ sum k (λ j. f (n + j))
unfolding sum
sum_split n zero f = let e : n + 0 ≡ n = omega arith in rw (e, +ℤ_idr (sum n f))
sum_split n (suc k) f =
    let e : n + suc k ≡ suc (n + k) = omega arith in
    rw (e, sum_split n k f) (+ℤ_assoc (sum n f) (sum k (λ j. f (n + j))) (f (n + k)))

pub total_split : (n k : ℕ) (f : ℕ → ℕ) → total (n + k) f ≡ total n f + total k (λ j. f (n + j))
unfolding total
total_split n zero f = let e : n + 0 ≡ n = omega arith in rw e (omega arith)
total_split n (suc k) f =
    let e : n + suc k ≡ suc (n + k) = omega arith in
    rw (e, total_split n k f) (omega arith)

-- the first term apart
pub sum_head : (n : ℕ) (f : ℕ → ℤ) → sum (suc n) f ≡ f 0 +ℤ sum n (λ k. f (suc k))
unfolding sum
sum_head zero f = rw (+ℤ_idl (f 0), +ℤ_idr)
sum_head (suc n) f = rw (sum_head n f) (+ℤ_assoc (f 0) (sum n (λ k. f (suc k))) (f (suc n)))

pub total_head : (n : ℕ) (f : ℕ → ℕ) → total (suc n) f ≡ f 0 + total n (λ k. f (suc k))
unfolding total
total_head zero f = omega arith
total_head (suc n) f = omega (arith, total_head n f)

-- ---- sums with few terms other than 0

pub sum-none : (n : ℕ) (f : ℕ → ℤ) → ((k : ℕ) → k < n → f k ≡ pos 0) → sum n f ≡ pos 0
unfolding sum
sum-none zero f h = refl
sum-none (suc n) f h = rw (sum-none n f (λ k l. h k (omega arith)), h n (omega arith))

pub total-none : (n : ℕ) (f : ℕ → ℕ) → ((k : ℕ) → k < n → f k ≡ 0) → total n f ≡ 0
unfolding total
total-none zero f h = refl
total-none (suc n) f h = omega (arith, total-none n f (λ k l. h k (omega arith)), h n (omega arith))

-- every term but that of i is 0
pub sum_one : (n i : ℕ) (f : ℕ → ℤ) → i < n → ((k : ℕ) → k < n → (k ≡ i → ⊥) → f k ≡ pos 0) → sum n f ≡ f i
unfolding sum
sum_one zero i f h others = absurd (omega arith)
sum_one (suc n) i f h others = by_case (le_or_lt n i) (λ l. sum_one n i f l (λ k m q. others k (omega arith) q))
  where
    by_case : (n ≤ i) ⊎ (i < n) → (i < n → sum n f ≡ f i) → sum n f +ℤ f n ≡ f i
    by_case (inl l) ih =
        let e : n ≡ i = omega arith in
        rw (sum-none n f (λ k m. others k (omega arith) (λ q. omega arith)), +ℤ_idl (f n)) (ap f e)
    by_case (inr l) ih = rw (ih l, others n (omega arith) (λ q. omega arith), +ℤ_idr (f i))

pub total-one : (n i : ℕ) (f : ℕ → ℕ) → i < n → ((k : ℕ) → k < n → (k ≡ i → ⊥) → f k ≡ 0) → total n f ≡ f i
total-one n i f h others =
    ap nat_abs (sym (sum-pos n f) ∙ sum_one n i (λ k. pos (f k)) h (λ k l q. ap pos (others k l q)))

-- every term but those of i and j is 0
pub sum_two : (n i j : ℕ) (f : ℕ → ℤ) → i < j → j < n → ((k : ℕ) → k < n → (k ≡ i → ⊥) → (k ≡ j → ⊥) → f k ≡ pos 0) → sum n f ≡ f i +ℤ f j
unfolding sum
sum_two zero i j f h l others = absurd (omega arith)
sum_two (suc n) i j f h l others = by_case (le_or_lt n j) (λ m. sum_two n i j f h m (λ k q. others k (omega arith)))
  where
    by_case : (n ≤ j) ⊎ (j < n) → (j < n → sum n f ≡ f i +ℤ f j) → sum n f +ℤ f n ≡ f i +ℤ f j
    by_case (inl m) ih =
        let e : n ≡ j = omega arith in
        rw (sum_one n i f (omega arith) (λ k q a. others k (omega arith) a (λ b. omega arith))) (ap (λ (k : ℕ). f i +ℤ f k) e)
    by_case (inr m) ih = rw (ih m, others n (omega arith) (λ q. omega arith) (λ q. omega arith), +ℤ_idr (f i +ℤ f j))

-- ---- two sums may be swapped

pub sum_swap : (n m : ℕ) (f : ℕ → ℕ → ℤ) → sum n (λ i. sum m (f i)) ≡ sum m (λ j. sum n (λ i. f i j))
unfolding sum
sum_swap zero m f = sym (sum-none m (λ j. pos 0) (λ k l. refl))
sum_swap (suc n) m f = rw (sum_swap n m f) (sym (sum-add m (λ j. sum n (λ i. f i j)) (f n)))

pub total_swap : (n m : ℕ) (f : ℕ → ℕ → ℕ) → total n (λ i. total m (f i)) ≡ total m (λ j. total n (λ i. f i j))
unfolding total
total_swap zero m f = sym (total-none m (λ j. 0) (λ k l. refl))
total_swap (suc n) m f = rw (total_swap n m f) (sym (total-add m (λ j. total n (λ i. f i j)) (f n)))

-- ---- how large they are

pub sum_le : (n : ℕ) (f g : ℕ → ℤ) → ((k : ℕ) → k < n → f k ≤ℤ g k) → sum n f ≤ℤ sum n g
unfolding sum
sum_le zero f g h = omega zarith
sum_le (suc n) f g h = le_add (sum_le n f g (λ k l. h k (omega arith))) (h n (omega arith))

-- the absolute value of a sum is at most the sum of the absolute values
pub abs-sum : (n : ℕ) (f : ℕ → ℤ) → nat_abs (sum n f) ≤ total n (λ k. nat_abs (f k))
unfolding sum total
abs-sum zero f = omega arith
abs-sum (suc n) f = omega (arith, abs-add (sum n f) (f n), abs-sum n f)

pub total_mono : (n : ℕ) (f g : ℕ → ℕ) → ((k : ℕ) → k < n → f k ≤ g k) → total n f ≤ total n g
unfolding total
total_mono zero f g h = omega arith
total_mono (suc n) f g h = omega (arith, total_mono n f g (λ k l. h k (omega arith)), h n (omega arith))

pub total_le : (n : ℕ) (f : ℕ → ℕ) (B : ℕ) → ((k : ℕ) → k < n → f k ≤ B) → total n f ≤ n * B
unfolding total
total_le zero f B h = omega arith
total_le (suc n) f B h = omega (arith, total_le n f B (λ k l. h k (omega arith)), h n (omega arith))

-- a term of natural numbers is at most their sum
pub term_le_total : (n : ℕ) (f : ℕ → ℕ) (i : ℕ) → i < n → f i ≤ total n f
unfolding total
term_le_total zero f i h = absurd (omega arith)
term_le_total (suc n) f i h = by_case (le_or_lt n i) (term_le_total n f i)
  where
    by_case : (n ≤ i) ⊎ (i < n) → (i < n → f i ≤ total n f) → f i ≤ total n f + f n
    by_case (inl l) ih = let e : i ≡ n = omega arith in omega (arith, ap f e)
    by_case (inr l) ih = omega (arith, ih l)

-- factors bounded by B: |Σ f g| ≤ (Σ |f|) B
pub abs-sum-mul : (n : ℕ) (f g : ℕ → ℤ) (B : ℕ) → ((k : ℕ) → k < n → nat_abs (g k) ≤ B) → nat_abs (sum n (λ k. f k *ℤ g k)) ≤ total n (λ k. nat_abs (f k)) * B
unfolding sum total
abs-sum-mul zero f g B h = omega arith
abs-sum-mul (suc n) f g B h =
    omega (
      arith,
      abs-add (sum n (λ k. f k *ℤ g k)) (f n *ℤ g n),
      abs-mul (f n) (g n),
      mul-le-mul_left (nat_abs (f n)) (h n (omega arith)),
      abs-sum-mul n f g B (λ k l. h k (omega arith)),
    )
