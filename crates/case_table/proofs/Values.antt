-- The exact values of the table's cases, proved: a test of one case, which the check computes for every row
-- of the table, and a law that takes it to the statement.
use mathlib.Core.Path.{◌≡◌, sym, ap, subst}
use mathlib.Core.Bool.{Bool, true, false, cond, ◌&&◌}
use mathlib.Core.List.{List, [], ◌∷◌, Memᴰ}
use Prim.Native.Nat.{ℕ, zero, suc, ◌<◌}
use native.Mathlib.Omega.{arith}
use lib.Dec.{T, eqb, ltb, eqb→eq, ltb→lt}
use borrow.Author.Tests.{eq-eqb}
use lib.IntN.{ℤ, pos, negsuc, ◌-ℤ◌, ◌*ℤ◌}
use lib.ListN.{length}
use Rattle.integers.specs.Flat.{at}
use Rattle.integers.proofs.Maximum.{below_suc}
use Rattle.integers.specs.Sum.{dot, sum}
use Rattle.bitfields.specs.Layout.{field, number, bits, values_from}
use Rattle.bitfields.specs.Twos.{decode}
use Rattle.system.specs.System.{curve_entry, system_entry, quotients_entry, matrix, right_side}
use Rattle.accuracy.specs.Accuracy.{order, unit_of, G, b}
use Rattle.case_table.specs.Table.{Case, table, Exact, ValuesExact}

-- ---- tests over whole numbers, over the indices below n and over a list

and_left : (x y : Bool) → T (x && y) → T x
and_left true y t = tt
and_left false y t = t

and_right : (x y : Bool) → T (x && y) → T y
and_right true y t = t
and_right false y t = absurd t

abbrev same : ℤ → ℤ → Bool
same (pos x) (pos y) = eqb x y
same (pos x) (negsuc y) = false
same (negsuc x) (pos y) = false
same (negsuc x) (negsuc y) = eqb x y

same_equal : (x y : ℤ) → T (same x y) → x ≡ y
same_equal (pos x) (pos y) t = ap pos (eqb→eq x y t)
same_equal (pos x) (negsuc y) t = absurd t
same_equal (negsuc x) (pos y) t = absurd t
same_equal (negsuc x) (negsuc y) t = ap negsuc (eqb→eq x y t)

abbrev every_below : ℕ → (ℕ → Bool) → Bool
every_below zero f = true
every_below (suc n) f = f n && every_below n f

below : (n : ℕ) (f : ℕ → Bool) → T (every_below n f) → (i : ℕ) → i < n → T (f i)
below zero f t i h = absurd (omega arith)
below (suc n) f t i h =
    below_suc (λ j. T (f j)) n (and_left (f n) (every_below n f) t) (below n f (and_right (f n) (every_below n f) t)) i h

abbrev every : (Case → Bool) → List Case → Bool
every f [] = true
every f (c ∷ cs) = f c && every f cs

among : (f : Case → Bool) (cs : List Case) → T (every f cs) → (c : Case) → Memᴰ c cs → T (f c)
among f [] t c x = elim x [ ]
among f (x ∷ cs) t c (Memᴰ.head e) = subst (λ (d : Case). T (f d)) (sym e) (and_left (f x) (every f cs) t)
among f (x ∷ cs) t c (Memᴰ.tail m) = among f cs (and_right (f x) (every f cs) t) c m

-- ---- one case

module _ (c : Case) where
  abbrev one_each : Bool
  one_each = eqb (length c.values) (order c.frame)

  abbrev positive : Bool
  positive = ltb 0 c.denominator

  -- row i's two sides, u N_i - Σ_j G_ij N_j and D b_i
  abbrev left : ℕ → ℤ
  left i = pos (unit_of c.frame) *ℤ at c.values i -ℤ dot (order c.frame) (G c.frame i) (at c.values)

  abbrev right : ℕ → ℤ
  right i = pos c.denominator *ℤ b c.frame i

  abbrev all_solved : Bool
  all_solved = every_below (order c.frame) (λ i. same (left i) (right i))

  abbrev exact_test : Bool
  exact_test = one_each && (positive && all_solved)

  exact : T exact_test → Exact c
  exact t =
      let u = and_right one_each (positive && all_solved) t in
      let rows = and_right positive all_solved u in
      record {
        one_a_row = eqb→eq (length c.values) (order c.frame) (and_left one_each (positive && all_solved) t);
        above_0 = ltb→lt 0 c.denominator (and_left positive all_solved u);
        solved = record { solves = λ i h. same_equal (left i) (right i) (below (order c.frame) (λ i. same (left i) (right i)) rows i h) };
      }

  -- a refused case has no values to test
  abbrev case_test : Bool
  case_test = cond (eqb c.outcome.refusal 0) exact_test true

-- ---- every case

all_pass : T (every case_test table)
unfolding table dot sum field number bits values_from decode curve_entry system_entry quotients_entry matrix right_side
all_pass = tt

pub values_hold : ValuesExact
values_hold c m e = exact c (rw (eq-eqb c.outcome.refusal 0 e) at (among case_test table all_pass c m))
