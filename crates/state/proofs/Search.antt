-- The search for digits above a bound: the machine's comparison, and a turn of the loop over the rows of a
-- step. Cited by the proofs of `marked` and `rows_beyond`.
use mathlib.Core.Path.{◌≡◌, refl, sym, ap, ◌∙◌}
use mathlib.Core.Bool.{Bool, true, false, cond, ◌||◌, or-true, or-false}
use mathlib.Core.List.{List}
use mathlib.Core.Logic.{◌↔◌, ◌⊎◌, inl, inr}
use Prim.Native.Nat.{ℕ, zero, suc, ◌+◌, ◌<◌, ◌≤◌, ◌^◌}
use native.Mathlib.Numerals.{add-one}
use native.Mathlib.Omega.{arith}
use borrow.Author.Tests.{lt-ltb, le-ltb, ltb-false}
use lib.Dec.{ltb, leb-suc-suc}
use lib.IntN.{ℤ, pos, negsuc, neg_ℤ, nat_abs, ◌-ℤ◌, +ℤ_idl}
use lib.ListN.{get_or, set, replicate, length-set, get_or-replicate}
use lib.Seq.{get_or-set_same, get_or-set_other}
use lib.Signed.{mag, lt_z}
use mir.Syntax.{w8}
use mir.Val.{SFits, to_z, of_z}
use mir.Facts.{to_z-of_z}
use Rattle.integers.specs.Flat.{entry}
use Rattle.integers.proofs.Machine.{cast, cast_is, machs, machine_fits}
use Rattle.integers.proofs.Maximum.{le_or_lt, below_suc}
use Rattle.state.specs.Inner.{mark_of, RowWithin, RowsBeyond}
use Rattle.job.proofs.Refusal.{or_fails}

-- ---- a digit x against a bound b

two_sides : (b : ℕ) (x : ℤ) → (lt_z (pos b) x || lt_z x (neg_ℤ (pos b))) ≡ ltb b (nat_abs x)
two_sides zero (pos a) = rw (le-ltb a 0 (omega arith)) (or-false (ltb 0 a))
two_sides (suc b) (pos a) = or-false (ltb (suc b) a)
two_sides zero (negsuc a) = sym (lt-ltb 0 (suc a) (omega arith))
two_sides (suc b) (negsuc a) = sym (leb-suc-suc (suc b) a)

-- as the machine has them, for every i8, the least one too
module _ (b : ℕ) (h : b ≤ 127) where
  pub low_fits : SFits w8 (pos 0 -ℤ to_z w8 b)
  low_fits = let c = cast w8 b 127 h in machine_fits (search machs depth 9) tt

  -- the mark that the outcome o of the two comparisons gives, where it was a
  pub mark_is : (x : ℤ) (a : ℕ) (o : Bool) → SFits w8 x
      → (lt_z (to_z w8 b) (to_z w8 (of_z w8 x)) || lt_z (to_z w8 (of_z w8 x)) (to_z w8 (of_z w8 (pos 0 -ℤ to_z w8 b)))) ≡ o
      → cond o 1 a ≡ cond (ltb b (nat_abs x)) 1 a
  mark_is x a o f e = rw (← e, to_z-of_z f, to_z-of_z low_fits, cast_is w8 b 127 h tt, +ℤ_idl (neg_ℤ (pos b)), two_sides b x)

-- ---- one digit more

-- a row has a mark after the test o where it had one, or where the test holds
mark_after : (o : Bool) (a : ℕ) → ltb 0 (cond o 1 a) ≡ (ltb 0 a || o)
mark_after true a = sym (or-true (ltb 0 a))
mark_after false a = sym (or-false (ltb 0 a))

-- row i, whose marks before and after its digit of step t + 1 are a and o
row_more : (b : ℕ) (ds : List ℤ) (j t i : ℕ) (a o : Bool)
    → j ≤ t
    → (a ≡ false) ↔ RowWithin b ds j t i
    → o ≡ (a || ltb b (nat_abs (entry ds t i)))
    → (o ≡ false) ↔ RowWithin b ds j (suc t) i
row_more b ds j t i a o l h e =
    let f = or_fails a (ltb b (nat_abs (entry ds t i))) in
    ((λ z. all (f.0 (sym e ∙ z))), (λ w. e ∙ f.1 (h.1 (λ s g u. w s g (omega arith)), le-ltb b (nat_abs (entry ds t i)) (w t l (omega arith)))))
  where
    all : (a ≡ false) × (ltb b (nat_abs (entry ds t i)) ≡ false) → RowWithin b ds j (suc t) i
    all p s g u =
        below_suc (λ s. j ≤ s → nat_abs (entry ds s i) ≤ b) t (λ _. ltb-false b (nat_abs (entry ds t i)) p.1) (λ s v k. h.0 p.0 s k v) s u g

-- ---- the marks

-- how many steps of row i are looked at, where t steps are and of the step after them the rows below k
abbrev pub looked : ℕ → ℕ → ℕ → ℕ
looked t k i = cond (ltb i k) (suc t) t

looked_other : (t k i : ℕ) → (i ≡ k → ⊥) → looked t (suc k) i ≡ looked t k i
looked_other t k i r = by_order (le_or_lt k i)
  where
    by_order : (k ≤ i) ⊎ (i < k) → looked t (suc k) i ≡ looked t k i
    by_order (inl l) = rw (le-ltb i k l, le-ltb i (suc k) (above (le_or_lt (suc k) i)))
      where
        above : (suc k ≤ i) ⊎ (i < suc k) → suc k ≤ i
        above (inl m) = m
        above (inr m) = absurd (r (omega arith))
    by_order (inr l) = let m : i < suc k = omega arith in rw (lt-ltb i k l, lt-ltb i (suc k) m)

module _ (b : ℕ) (ds : List ℤ) (j : ℕ) where
  pub marks_none : RowsBeyond b ds j (λ i. j) (replicate 16 0)
  marks_none =
      record { size = refl; unmarked = λ i l. ((λ e t g h. absurd (omega arith)), (λ h. ap (λ (a : ℕ). ltb 0 a) (get_or-replicate 16 i 0 0 l))) }

  -- the rows of the next step
  pub rows_start : (t : ℕ) (m : List ℕ) → RowsBeyond b ds j (λ i. t) m → RowsBeyond b ds j (looked t 0) m
  rows_start t m h = record { size = h.size; unmarked = λ i l. rw (le-ltb i 0 (omega arith)) (h.unmarked i l) }

  pub rows_end : (t k : ℕ) (m : List ℕ) → k ≡ 16 → RowsBeyond b ds j (looked t k) m → RowsBeyond b ds j (λ i. t + 1) m
  rows_end t k m e h =
      record { size = h.size; unmarked = λ i l. rw add-one (rw (lt-ltb i k (omega arith)) at (h.unmarked i l)) }

  -- row k's digit x, as the machine has it, gives the mark v
  module _ (t k : ℕ) (m : List ℕ) (v : ℕ) (h : RowsBeyond b ds j (looked t k) m) (l : k < 16) (g : j ≤ t) (f : mag (entry ds t k) < 2 ^ 7)
      (e : v ≡ cond (ltb b (nat_abs (to_z w8 (of_z w8 (entry ds t k))))) 1 (get_or m k 0)) where
    this_row : (mark_of (set m k v) k ≡ false) ↔ RowWithin b ds j (suc t) k
    this_row =
        rw (get_or-set_same m k v 0 (omega (arith, h.size)))
        (row_more b ds j t k (mark_of m k) (ltb 0 v) g (rw (le-ltb k k (omega arith)) at (h.unmarked k l))
        (rw (e, to_z-of_z {w = w8} {z = entry ds t k} (record { sfits = f })) (mark_after (ltb b (nat_abs (entry ds t k))) (get_or m k 0))))

    other_row : (i : ℕ) → i < 16 → (i ≡ k → ⊥) → (mark_of (set m k v) i ≡ false) ↔ RowWithin b ds j (looked t (suc k) i) i
    other_row i q r = rw (get_or-set_other m k i v 0 r, looked_other t k i r) (h.unmarked i q)

    pub rows_more : RowsBeyond b ds j (looked t (k + 1)) (set m k v)
    rows_more =
        rw add-one (record { size = length-set m k v ∙ h.size; unmarked = λ i q. by_order i q (le_or_lt i k) (le_or_lt k i) })
      where
        by_order : (i : ℕ) → i < 16 → (i ≤ k) ⊎ (k < i) → (k ≤ i) ⊎ (i < k)
            → (mark_of (set m k v) i ≡ false) ↔ RowWithin b ds j (looked t (suc k) i) i
        by_order i q (inl x) (inl y) = let r : i ≡ k = omega arith in rw (r, lt-ltb k (suc k) (omega arith)) this_row
        by_order i q (inl x) (inr y) = other_row i q (λ r. omega arith)
        by_order i q (inr x) y = other_row i q (λ r. omega arith)
