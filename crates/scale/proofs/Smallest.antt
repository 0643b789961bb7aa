-- The scale is the smallest number that every right-hand side fits.
use mathlib.Core.Path.{◌≡◌, refl, sym, ◌∙◌}
use mathlib.Core.Bool.{Bool, true, false, cond, ◌&&◌, true≢false}
use mathlib.Core.List.{List}
use mathlib.Core.Logic.{◌↔◌}
use Prim.Native.Nat.{ℕ, zero, suc, ◌+◌, ◌*◌, ◌^◌, ◌<◌, ◌≤◌}
use native.Mathlib.Nat.{mul-le-mul, mul-le-mul_left, pow-zero, pow-suc}
use native.Mathlib.Omega.{arith}
use borrow.Author.Tests.{le-leb, leb-true, leb-false}
use lib.IntN.{ℤ, nat_abs}
use lib.Pow.{pow_mono, pow-add}
use Rattle.integers.specs.Flat.{at, flat_vector}
use Rattle.integers.proofs.Flat.{at-flat_vector}
use Rattle.integers.proofs.Maximum.{below_suc}
use Rattle.job.specs.Header.{radix, unit, count, Limits}
use Rattle.job.specs.Rules.{scale_factor, inner_unit, most_scale}
use Rattle.job.specs.declared.Header.{Header}
use Rattle.system.specs.Inner.{Numbers}
use Rattle.system.specs.System.{right_side, right_side_of}
use Rattle.system.proofs.Numbers.{right_place-most}
use Rattle.scale.specs.Inner.{SmallSides}
use Rattle.scale.specs.Scale.{small_enough, every, fits, scale, TooLarge, Smallest, ScaleSmallest}

-- ---- a test of every row

and_left : (a b : Bool) → a && b ≡ true → a ≡ true
and_left true b e = refl
and_left false b e = e

and_right : (a b : Bool) → a && b ≡ true → b ≡ true
and_right true b e = e
and_right false true e = refl
and_right false false e = e

every-each : (n : ℕ) (t : ℕ → Bool) → every n t ≡ true → (i : ℕ) → i < n → t i ≡ true
unfolding every
every-each zero t e i l = absurd (omega arith)
every-each (suc n) t e i l = below_suc (λ i. t i ≡ true) n (and_left (t n) (every n t) e) (every-each n t (and_right (t n) (every n t) e)) i l

each-every : (n : ℕ) (t : ℕ → Bool) → ((i : ℕ) → i < n → t i ≡ true) → every n t ≡ true
unfolding every
each-every zero t f = refl
each-every (suc n) t f = rw (f n (omega arith), each-every n t (λ i l. f i (omega arith))) refl

-- where it fails it fails of some row
some_false : {C : Type 0} (n : ℕ) (t : ℕ → Bool) → ((i : ℕ) → i < n → t i ≡ false → C) → every n t ≡ false → C
unfolding every
some_false zero t found e = absurd (true≢false e)
some_false {C = C} (suc n) t found e = by_test (t n) refl e (some_false n t (λ i l. found i (omega arith)))
  where
    by_test : (b : Bool) → t n ≡ b → (b && every n t) ≡ false → (every n t ≡ false → C) → C
    by_test true q e before = before e
    by_test false q e before = found n (omega arith) q

module _ (h : Header) (B : ℕ → ℤ) where
  pub fits_exactly : (s : ℕ) → (fits h B s ≡ true) ↔ ((i : ℕ) → i < h.n → 2 * nat_abs (B i) ≤ inner_unit h s)
  fits_exactly s = (
    (λ e i l. leb-true _ _ (every-each h.n (λ i. small_enough h s (B i)) e i l)),
    (λ f. each-every h.n (λ i. small_enough h s (B i)) (λ i l. le-leb _ _ (f i l))),
  )

  too_large : (s : ℕ) → fits h B s ≡ false → TooLarge h B s
  too_large s e = some_false h.n (λ i. small_enough h s (B i)) (λ i l q. record { row = i; inside = l; large = leb-false _ _ q }) e

  -- ---- right-hand sides of at most 2, as every frame's are

  module _ (small : (i : ℕ) → i < h.n → nat_abs (B i) ≤ 2 ^ (h.f + 1)) where
    -- 4 is enough for them
    four_fits : (s : ℕ) → 4 ≤ scale_factor h s → (i : ℕ) → i < h.n → 2 * nat_abs (B i) ≤ inner_unit h s
    four_fits s k i l =
        let d : 2 ^ (h.f + 1) ≡ unit h * 2 = pow-add 2 h.f 1 in
        omega (arith, small i l, mul-le-mul_left (unit h) k)

    square : (r : ℕ) → 2 ≤ r → 4 ≤ r ^ 2
    square r k = rw (pow-suc r 1, pow-suc r 0, pow-zero r) (let q = mul-le-mul k k in omega arith)

    two_fits : (i : ℕ) → i < h.n → 2 * nat_abs (B i) ≤ inner_unit h 2
    two_fits = four_fits 2 (square (radix h.code) (pow_mono {i = 1} {j = h.code + 1} (omega arith)))

    -- past radix 2 so is r itself
    one-fits : (c : ℕ) → h.code ≡ suc c → fits h B 1 ≡ true
    one-fits c e =
        let q : 4 ≤ radix h.code = pow_mono {i = 2} {j = h.code + 1} (omega (arith, e)) in
        (fits_exactly 1).1 (four_fits 1 (rw (pow-suc (radix h.code) 0, pow-zero (radix h.code)) (omega arith)))

    by_tests : (a b : Bool) → fits h B 0 ≡ a → fits h B 1 ≡ b → Smallest h B (cond a 0 (cond b 1 2))
    by_tests true b ea eb = record { fit = (fits_exactly 0).0 ea; least = λ t l. absurd (omega (arith, l)); most = omega arith }
    by_tests false true ea eb = record { fit = (fits_exactly 1).0 eb; least = least; most = one-most h.code }
      where
        least : (t : ℕ) → t < 1 → TooLarge h B t
        least zero l = too_large 0 ea
        least (suc t) l = absurd (omega (arith, l))

        one-most : (code : ℕ) → 1 ≤ most_scale code
        one-most zero = omega arith
        one-most (suc code) = omega arith
    by_tests false false ea eb = record { fit = two_fits; least = least; most = two_most h.code refl }
      where
        least : (t : ℕ) → t < 2 → TooLarge h B t
        least zero l = too_large 0 ea
        least (suc zero) l = too_large 1 eb
        least (suc (suc t)) l = absurd (omega (arith, l))

        two_most : (code : ℕ) → h.code ≡ code → 2 ≤ most_scale code
        two_most zero e = omega arith
        two_most (suc c) e = absurd (true≢false (sym (one-fits c e) ∙ eb))

pub scale-smallest : ScaleSmallest
scale-smallest h B small = by_tests h B small (fits h B 0) (fits h B 1) refl refl

-- it looks at the rows below the order only
every_ext : (n : ℕ) (t s : ℕ → Bool) → ((i : ℕ) → i < n → t i ≡ s i) → every n t ≡ every n s
unfolding every
every_ext zero t s e = refl
every_ext (suc n) t s e = rw (e n (omega arith), every_ext n t s (λ i l. e i (omega arith)))

scale_ext : (h : Header) (B C : ℕ → ℤ) → ((i : ℕ) → i < h.n → B i ≡ C i) → scale h B ≡ scale h C
scale_ext h B C e = rw (same 0, same 1)
  where
    same : (s : ℕ) → fits h B s ≡ fits h C s
    same s = every_ext h.n (λ i. small_enough h s (B i)) (λ i. small_enough h s (C i)) (λ i l. rw (e i l))

pub scale_flat : (h : Header) (B : ℕ → ℤ) → h.n ≤ 16 → scale h (at (flat_vector h.n B)) ≡ scale h B
scale_flat h B l = scale_ext h (at (flat_vector h.n B)) B (λ i k. at-flat_vector h.n B i l k)

-- the right-hand sides of numbers that can be set up
pub sides_small : {h : Header} {v : List ℤ} → Limits h → Numbers (count h) v → SmallSides h.n (flat_vector h.n (right_side_of h v))
unfolding right_side
sides_small {h} {v} l m =
    record {
      rows = λ i k. rw (at-flat_vector h.n (right_side_of h v) i l.order_most k) (m.small _ (right_place-most h.kind h.n i l.kind_most k)).abs;
    }

-- whatever the right-hand sides, it is at most 2
pub scale_small : (h : Header) (B : ℕ → ℤ) → scale h B ≤ 2
scale_small h B = by_tests (fits h B 0) (fits h B 1)
  where
    by_tests : (a b : Bool) → cond a 0 (cond b 1 2) ≤ 2
    by_tests true b = omega arith
    by_tests false true = omega arith
    by_tests false false = omega arith
