-- The system of a curve, row by row: for a vector that is 0 at n it is that of `Differences`. Cited by
-- `Value`.
use mathlib.Core.Path.{◌≡◌, refl, sym, ap, ◌∙◌}
use mathlib.Core.Bool.{cond}
use mathlib.Core.List.{[], ◌∷◌}
use Prim.Native.Nat.{ℕ, zero, suc, ◌<◌}
use native.Mathlib.Omega.{arith}
use lib.Dec.{ltb}
use borrow.Author.Tests.{eq-eqb, ne_eqb, lt-ltb, le-ltb}
use lib.IntN.{ℤ, pos, neg_ℤ, ◌+ℤ◌, ◌-ℤ◌, ◌*ℤ◌, zero-*ℤ, *ℤ-zero, +ℤ_idr}
use Rattle.integers.proofs.Normal.{solve, polys}
use Rattle.integers.specs.Sum.{dot}
use Rattle.integers.proofs.Product.{dot-suc}
use Rattle.integers.proofs.Sum.{sum_two}
use Rattle.system.specs.System.{curve_entry, past_first}
use Rattle.recurrence.specs.Recurrence.{Solves}
use Rattle.curve.proofs.Differences.{Differences}

-- ---- the entries of row i

pub entry_first : (x : ℤ) (q : ℕ → ℤ) (i : ℕ) → curve_entry x q i 0 ≡ neg_ℤ (past_first q i)
unfolding curve_entry
entry_first x q i = refl

pub entry_next : (x : ℤ) (q : ℕ → ℤ) (i : ℕ) → curve_entry x q i (suc i) ≡ x
unfolding curve_entry
entry_next x q i = rw (eq-eqb i i refl)

pub entry_other : (x : ℤ) (q : ℕ → ℤ) (i j : ℕ) → (j ≡ 0 → ⊥) → (j ≡ suc i → ⊥) → curve_entry x q i j ≡ pos 0
unfolding curve_entry
entry_other x q i zero h k = absurd (h refl)
entry_other x q i (suc j) h k = rw (ne_eqb j i (λ e. k (ap suc e)))

-- ---- a vector that is 0 at n

-- Row n - 1 has no column for x. With one more column, where the vector is 0, every row has two entries.
row-product : (x : ℤ) (q N : ℕ → ℤ) (n i : ℕ) → N n ≡ pos 0 → i < n → dot n (curve_entry x q i) N ≡ x *ℤ N (suc i) -ℤ past_first q i *ℤ N 0
unfolding dot
row-product x q N n i ends l = sym wider ∙ two ∙ rw (entry_first x q i, entry_next x q i) (turn (past_first q i) (N 0) x (N (suc i)))
  where
    wider : dot (suc n) (curve_entry x q i) N ≡ dot n (curve_entry x q i) N
    wider = dot-suc n (curve_entry x q i) N ∙ rw (ends, *ℤ-zero (curve_entry x q i n), +ℤ_idr (dot n (curve_entry x q i) N))

    two : dot (suc n) (curve_entry x q i) N ≡ curve_entry x q i 0 *ℤ N 0 +ℤ curve_entry x q i (suc i) *ℤ N (suc i)
    two =
        sum_two (suc n) 0 (suc i) (λ j. curve_entry x q i j *ℤ N j) (omega arith) (omega arith)
        (λ j m h k. rw (entry_other x q i j h k, zero-*ℤ (N j)))

    turn : (a b c d : ℤ) → neg_ℤ a *ℤ b +ℤ c *ℤ d ≡ c *ℤ d -ℤ a *ℤ b
    turn a b c d = solve (a ∷ b ∷ c ∷ d ∷ []) (search polys depth 9) (search polys depth 9) tt

module _ (n u D : ℕ) (x : ℤ) (p q N : ℕ → ℤ) (ends : N n ≡ pos 0) where
  pub to_differences : Solves n u D (curve_entry x q) p N → Differences n (pos u) x p (past_first q) (pos D) N
  to_differences s =
      record {
        ends = ends;
        row = λ i l. moved (pos u *ℤ N i) (x *ℤ N (suc i)) (past_first q i) (N 0) (pos D *ℤ p i) (rw (row-product x q N n i ends l) at (s.solves i l));
      }
    where
      moved : (a b c d e : ℤ) → a -ℤ (b -ℤ c *ℤ d) ≡ e → a -ℤ b ≡ e -ℤ d *ℤ c
      moved a b c d e h = rw (← h) (solve (a ∷ b ∷ c ∷ d ∷ []) (search polys depth 12) (search polys depth 12) tt)

  pub of_differences : Differences n (pos u) x p (past_first q) (pos D) N → Solves n u D (curve_entry x q) p N
  of_differences s =
      record {
        solves = λ i l. rw (row-product x q N n i ends l) (joined (pos u *ℤ N i) (x *ℤ N (suc i)) (past_first q i) (N 0) (pos D *ℤ p i) (s.row i l));
      }
    where
      joined : (a b c d e : ℤ) → a -ℤ b ≡ e -ℤ d *ℤ c → a -ℤ (b -ℤ c *ℤ d) ≡ e
      joined a b c d e h = split ∙ rw h (solve (c ∷ d ∷ e ∷ []) (search polys depth 12) (search polys depth 12) tt)
        where
          split : a -ℤ (b -ℤ c *ℤ d) ≡ (a -ℤ b) +ℤ c *ℤ d
          split = solve (a ∷ b ∷ c ∷ d ∷ []) (search polys depth 12) (search polys depth 12) tt

-- ---- any vector, with 0 put in the place of what stands from n on

abbrev pub cut : ℕ → (ℕ → ℤ) → ℕ → ℤ
cut n N j = cond (ltb j n) (N j) (pos 0)

pub cut_below : (n : ℕ) (N : ℕ → ℤ) (j : ℕ) → j < n → cut n N j ≡ N j
cut_below n N j h = rw (lt-ltb j n h)

pub cut_end : (n : ℕ) (N : ℕ → ℤ) → cut n N n ≡ pos 0
cut_end n N = rw (le-ltb n n (omega arith))
