-- The selection table (document 02, 4/14): what it holds, how a digit is chosen by it, and that this is the
-- choice of the recurrence. The array's makers work from this table. Estimates are in parts of a unit, of
-- which a unit has 32; the table has those from -16 to 16 less 1/32, in steps of 1/32.
use mathlib.Core.{Path.◌≡◌, List.List}
use Rattle.std.specs.Prelude.{ℕ, suc, ◌+◌, ◌*◌, ◌<◌, ◌≤◌, ◌/◌, min}
use lib.{IntN.ℤ, IntN.pos, IntN.negsuc, IntN.neg_ℤ, IntN.nat_abs, IntN.◌+ℤ◌, IntN.◌-ℤ◌, Signed.◌≤ℤ◌}
use Rattle.integers.specs.Flat.{at, list_from}
use Rattle.job.specs.Rules.{bound_over, bound_under}
use Rattle.recurrence.specs.Recurrence.{unit_parts, estimate, select}

-- ---- the rule of an entry: the nearest whole number, a tie away from zero

-- the whole number of units nearest to a parts, a tie up: a and half a unit, cut
abbrev pub nearest_size : (a : ℕ) → ℕ
nearest_size a = (a + unit_parts / 2) / unit_parts

-- that of an estimate e: its magnitude's, with e's sign
unfoldable pub nearest : (e : ℤ) → ℤ
nearest (pos a) = pos (nearest_size a)
nearest (negsuc a) = neg_ℤ (pos (nearest_size (suc a)))

-- ---- the table

-- how many entries it has, and how many of them are for estimates below zero
abbrev pub estimate_count : ℕ
estimate_count = 1024

abbrev pub estimates_below : ℕ
estimates_below = 512

-- the estimate whose entry stands at place k, and the place of an estimate's entry
abbrev pub estimate_at : (k : ℕ) → ℤ
estimate_at k = pos k -ℤ pos estimates_below

abbrev pub place_of : (e : ℤ) → ℕ
place_of e = nat_abs (e +ℤ pos estimates_below)

-- e is one of the table's estimates
abbrev pub InTable : (e : ℤ) → Type 0
InTable e = (negsuc 511 ≤ℤ e) × (e ≤ℤ pos 511)

unfoldable pub selection_table : List ℤ
selection_table = list_from 0 estimate_count (λ k. nearest (estimate_at k))

-- ---- the digit of an estimate: its entry, held back to p or -p

unfoldable pub held : (p : ℕ) (z : ℤ) → ℤ
held p (pos a) = pos (min a p)
held p (negsuc a) = neg_ℤ (pos (min (suc a) p))

abbrev pub table_digit : (p : ℕ) (e : ℤ) → ℤ
table_digit p e = held p (at selection_table (place_of e))

-- ---- what is proved of it, in proofs/

-- The place of every estimate from -512 to 511 is in the table, and the entry there is the rule's value.
abbrev pub TableRule : Type 0
TableRule = (e : ℤ) → InTable e → (place_of e < estimate_count) × (at selection_table (place_of e) ≡ nearest e)

-- For every w that a loaded job, or a state that passes 24, meets, the estimate is in the table, and the
-- digit by the table is the recurrence's choice.
abbrev pub TableSelects : Type 0
TableSelects =
    (p u : ℕ) (w : ℤ) → 0 < u → p ≤ 15 → bound_under * nat_abs w ≤ (bound_under * p + bound_over) * u →
    InTable (estimate u w) × (table_digit p (estimate u w) ≡ select p u w)
