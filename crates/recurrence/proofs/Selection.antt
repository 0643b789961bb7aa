-- The estimate, what document 01's rule gives of it, and that the choice is a rule of selection.
use mathlib.Core.Path.{◌≡◌, refl, ap, ◌∙◌}
use mathlib.Core.List.{List, [], ◌∷◌}
use mathlib.Core.Logic.{◌⊎◌, inl, inr}
use Prim.Native.Nat.{ℕ, suc, ◌+◌, ◌*◌, ◌<◌, ◌≤◌, ◌/◌, ◌%◌}
use native.Mathlib.Nat.{div-add-mod, mod-lt, mul-le-mul_left, div-lt_iff_lt-mul}
use native.Mathlib.Omega.{arith}
use borrow.Author.Tests.{le-leb, lt-leb}
use lib.IntN.{ℤ, pos, negsuc, neg_ℤ, nat_abs, ◌+ℤ◌, ◌-ℤ◌, ◌*ℤ◌}
use lib.Signed.{◌≤ℤ◌, ◌<ℤ◌}
use Rattle.integers.proofs.Parts.{pos_part_neg, neg_part_neg, parts_add}
use Rattle.integers.proofs.Absolute.{abs_neg, abs_le}
use Rattle.integers.proofs.Maximum.{le_or_lt}
use Rattle.integers.proofs.Linear.{lins, by_le, by_lt}
use Rattle.integers.proofs.Order.{zarith}
use Rattle.integers.proofs.Normal.{solve, polys}
use Rattle.recurrence.specs.Recurrence.{cut_down, estimate, digit_size, rounded, select}
use Rattle.recurrence.specs.Theorems.{EstimateFloor, SelectSelects}

-- ---- what the rule gives

pub digit_size_round : (p a : ℕ) → a ≤ p * 32 → digit_size p a ≡ (a + 16) / 32
unfolding digit_size
digit_size_round p a h = rw (le-leb a (p * 32) h)

pub digit_size_cut : (p a : ℕ) → p * 32 < a → digit_size p a ≡ a / 32
unfolding digit_size
digit_size_cut p a h = rw (lt-leb a (p * 32) h)

-- ---- the estimate, by w's sign

parts_below : (a : ℕ) → pos 32 *ℤ negsuc a ≡ negsuc (32 * a + 31)
parts_below a = let e : 32 * suc a ≡ suc (32 * a + 31) = omega arith in ap (λ (n : ℕ). neg_ℤ (pos n)) e

pub estimate_above : (u a : ℕ) → estimate u (pos a) ≡ pos (32 * a / u)
unfolding estimate cut_down
estimate_above u a = refl

-- the magnitude of a negative number's floor is the quotient rounded up
pub estimate_below : (u a : ℕ) → estimate u (negsuc a) ≡ negsuc ((32 * a + 31) / u)
unfolding estimate cut_down
estimate_below u a = rw (parts_below a)

-- with four fraction bits it is w itself
pub estimate_exact : (w : ℤ) → estimate 16 w ≡ pos 2 *ℤ w
estimate_exact (pos a) = estimate_above 16 a ∙ ap pos (omega arith)
estimate_exact (negsuc a) =
    let e : suc ((32 * a + 31) / 16) ≡ 2 * suc a = omega arith in
    estimate_below 16 a ∙ ap (λ (n : ℕ). neg_ℤ (pos n)) e

pub estimate_floor : EstimateFloor
estimate_floor u (pos a) h = rw (estimate_above u a) (by (32 * a / u) (32 * a % u) (div-add-mod (32 * a) u) (mod-lt (32 * a) h))
  where
    by : (q t : ℕ) → u * q + t ≡ 32 * a → t < u → (pos (u * q) ≤ℤ pos (32 * a)) × (pos (32 * a) <ℤ pos (u * q + u))
    by q t e l = (omega zarith, omega zarith)
estimate_floor u (negsuc a) h =
    rw (estimate_below u a) (by ((32 * a + 31) / u) ((32 * a + 31) % u) (div-add-mod (32 * a + 31) u) (mod-lt (32 * a + 31) h))
  where
    by : (q t : ℕ) → u * q + t ≡ 32 * a + 31 → t < u → ((pos u *ℤ negsuc q) ≤ℤ (pos 32 *ℤ negsuc a)) × ((pos 32 *ℤ negsuc a) <ℤ (pos u *ℤ negsuc q +ℤ pos u))
    by q t e l =
        let ρ : List ℤ = [] in
        (by_le ρ (search lins depth 9) (search lins depth 9) (omega arith), by_lt ρ (search lins depth 9) (search lins depth 9) (omega arith))

-- m is the magnitude of the estimate of a w with 32 |w| = A: each within a unit of the other
record Close (u A m : ℕ) : Type 0 where
  pub over : A ≤ u * m + u
  pub short : u * m ≤ A + u

floor_close : (u A : ℕ) → 0 < u → Close u A (A / u)
floor_close u A h = by (A / u) (A % u) (div-add-mod A u) (mod-lt A h)
  where
    by : (q t : ℕ) → u * q + t ≡ A → t < u → Close u A q
    by q t e l = omega arith

ceiling_close : (u A : ℕ) → 0 < u → Close u (suc A) (suc (A / u))
ceiling_close u A h = by (A / u) (A % u) (div-add-mod A u) (mod-lt A h)
  where
    by : (q t : ℕ) → u * q + t ≡ A → t < u → Close u (suc A) (suc q)
    by q t e l = omega arith

-- ---- the digit of the estimate's magnitude

-- d is a digit for 32 |w| = A: within p, and at most 17/32 of a unit away
record Near (p u A d : ℕ) : Type 0 where
  pub small : d ≤ p
  pub over : A ≤ 32 * (u * d) + 17 * u
  pub short : 32 * (u * d) ≤ A + 17 * u

rounded-near : (p u A m : ℕ) → Close u A m → m ≤ p * 32 → Near p u A ((m + 16) / 32)
rounded-near p u A m c h = by ((m + 16) / 32) (omega arith) (omega arith)
  where
    by : (d : ℕ) → 32 * d ≤ m + 16 → m ≤ 32 * d + 15 → Near p u A d
    by d k l =
        let x : u * (32 * d) ≤ u * (m + 16) = mul-le-mul_left u k in
        let y : u * m ≤ u * (32 * d + 15) = mul-le-mul_left u l in
        omega arith

cut_near : (p u A m : ℕ) → Close u A m → p * 32 < m → m ≤ 32 * p + 17 → A ≤ (32 * p + 17) * u → Near p u A (m / 32)
cut_near p u A m c h k l = let e : m / 32 ≡ p = omega arith in rw e by
  where
    by : Near p u A p
    by = let x : u * (32 * p + 1) ≤ u * m = mul-le-mul_left u (omega arith) in omega arith

digit-near : (p u A m : ℕ) → Close u A m → m ≤ 32 * p + 17 → A ≤ (32 * p + 17) * u → Near p u A (digit_size p m)
digit-near p u A m c k l = by_case (le_or_lt m (p * 32))
  where
    by_case : (m ≤ p * 32) ⊎ (p * 32 < m) → Near p u A (digit_size p m)
    by_case (inl h) = rw (digit_size_round p m h) (rounded-near p u A m c h)
    by_case (inr h) = rw (digit_size_cut p m h) (cut_near p u A m c h k l)

-- ---- it selects, with residuals of at most 17/32 of a unit

difference : (a b B : ℕ) → 32 * a ≤ 32 * b + B → 32 * b ≤ 32 * a + B → 32 * nat_abs (pos a -ℤ pos b) ≤ B
difference a b B h k =
    let f = parts_add (pos a) (neg_ℤ (pos b)) in
    abs_le 32 (pos a -ℤ pos b) B (omega (arith, pos_part_neg (pos b), neg_part_neg (pos b))) (omega (arith, pos_part_neg (pos b), neg_part_neg (pos b)))

mirrored : (w u q : ℤ) → neg_ℤ w -ℤ u *ℤ neg_ℤ q ≡ neg_ℤ (w -ℤ u *ℤ q)
mirrored w u q = solve (w ∷ u ∷ q ∷ []) (search polys depth 12) (search polys depth 12) tt

module _ (p u : ℕ) (hu : 0 < u) where
  quotient_most : (A : ℕ) → A ≤ (32 * p + 17) * u → A / u ≤ 32 * p + 17
  quotient_most A h =
      let l : A / u < suc (32 * p + 17) = (div-lt_iff_lt-mul {k = u} {x = A} {y = suc (32 * p + 17)} hu).1 (omega arith) in
      omega arith

  ceiling_most : (A : ℕ) → suc A ≤ (32 * p + 17) * u → suc (A / u) ≤ 32 * p + 17
  ceiling_most A h =
      let l : A / u < 32 * p + 17 = (div-lt_iff_lt-mul {k = u} {x = A} {y = 32 * p + 17} hu).1 (omega arith) in
      omega arith

  -- the estimate is as small as what it estimates
  pub estimate-small : (w : ℤ) → 32 * nat_abs w ≤ (32 * p + 17) * u → nat_abs (estimate u w) ≤ 32 * p + 17
  estimate-small (pos a) h = rw (estimate_above u a) (quotient_most (32 * a) h)
  estimate-small (negsuc a) h = rw (estimate_below u a) (ceiling_most (32 * a + 31) (omega arith))

  above : (a : ℕ) → 32 * a ≤ (32 * p + 17) * u → Near p u (32 * a) (digit_size p (32 * a / u))
  above a h = digit-near p u (32 * a) (32 * a / u) (floor_close u (32 * a) hu) (quotient_most (32 * a) h) h

  below : (a : ℕ) → 32 * suc a ≤ (32 * p + 17) * u → Near p u (32 * suc a) (digit_size p (suc ((32 * a + 31) / u)))
  below a h =
      let e : suc (32 * a + 31) ≡ 32 * suc a = omega arith in
      let c : Close u (32 * suc a) (suc ((32 * a + 31) / u)) = rw e at (ceiling_close u (32 * a + 31) hu) in
      digit-near p u (32 * suc a) (suc ((32 * a + 31) / u)) c (ceiling_most (32 * a + 31) (omega arith)) h

  small : (w : ℤ) → 32 * nat_abs w ≤ (32 * p + 17) * u → nat_abs (select p u w) ≤ p
  unfolding select rounded
  small (pos a) h = rw (estimate_above u a) (above a h).small
  small (negsuc a) h = rw (estimate_below u a, abs_neg (pos (digit_size p (suc ((32 * a + 31) / u))))) (below a h).small

  left : (w : ℤ) → 32 * nat_abs w ≤ (32 * p + 17) * u → 32 * nat_abs (w -ℤ pos u *ℤ select p u w) ≤ 17 * u
  unfolding select rounded
  left (pos a) h =
      let g = above a h in
      rw (estimate_above u a) (difference a (u * digit_size p (32 * a / u)) (17 * u) (omega arith) (omega arith))
  left (negsuc a) h =
      let g = below a h in
      let d : ℕ = digit_size p (suc ((32 * a + 31) / u)) in
      let e : negsuc a -ℤ pos u *ℤ neg_ℤ (pos d) ≡ neg_ℤ (pos (suc a) -ℤ pos u *ℤ pos d) = mirrored (pos (suc a)) (pos u) (pos d) in
      rw (estimate_below u a, e, abs_neg (pos (suc a) -ℤ pos u *ℤ pos d)) (difference (suc a) (u * d) (17 * u) (omega arith) (omega arith))

pub select_selects : SelectSelects
select_selects p u hu = record { small = small p u hu; left = left p u hu }
