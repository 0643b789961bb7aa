-- What the selection table holds, and that the digit by it is the choice of the recurrence.
use mathlib.Core.Path.{◌≡◌, refl, ap, ◌∙◌}
use mathlib.Core.List.{[], ◌∷◌}
use mathlib.Core.Logic.{◌⊎◌, inl, inr}
use Prim.Native.Nat.{ℕ, zero, suc, ◌+◌, ◌*◌, ◌<◌, ◌≤◌, min}
use native.Mathlib.Nat.{zero-min}
use native.Mathlib.Omega.{arith}
use lib.IntN.{ℤ, pos, negsuc, neg_ℤ, nat_abs, ◌+ℤ◌, ◌-ℤ◌}
use lib.ListN.{length}
use lib.Signed.{◌≤ℤ◌}
use Rattle.integers.specs.Flat.{at}
use Rattle.integers.proofs.Absolute.{abs_parts, abs_neg}
use Rattle.integers.proofs.Flat.{length-list_from, getD_list_from}
use Rattle.integers.proofs.Maximum.{le_or_lt}
use Rattle.integers.proofs.Normal.{solve, polys}
use Rattle.integers.proofs.Order.{zarith}
use Rattle.integers.proofs.Parts.{parts_add}
use Rattle.recurrence.specs.Recurrence.{estimate, digit_size, rounded, select}
use Rattle.recurrence.proofs.Selection.{digit_size_round, digit_size_cut, estimate-small}
use Rattle.selection.specs.Selection.{nearest_size, nearest, estimate_count, estimate_at, place_of, InTable, selection_table, held, TableRule, TableSelects}

-- ---- the table's estimates and their places

pub within-table : (e : ℤ) → InTable e → nat_abs e ≤ 512
within-table (pos a) h = omega (zarith, h.1)
within-table (negsuc a) h = omega (zarith, h.0)

pub in_table : (e : ℤ) → nat_abs e ≤ 511 → InTable e
in_table e h = (omega (zarith, h, abs_parts e), omega (zarith, h, abs_parts e))

pub estimate_in_table : (k : ℕ) → k < estimate_count → InTable (estimate_at k)
estimate_in_table k h = (omega (zarith, parts_add (pos k) (negsuc 511)), omega (zarith, parts_add (pos k) (negsuc 511)))

natural : (z : ℤ) → pos 0 ≤ℤ z → pos (nat_abs z) ≡ z
natural (pos n) h = refl
natural (negsuc n) h = absurd h.le

back : (e : ℤ) → (e +ℤ pos 512) -ℤ pos 512 ≡ e
back e = solve (e ∷ []) (search polys depth 12) (search polys depth 12) tt

module _ (e : ℤ) (h : InTable e) where
  pub place_natural : pos 0 ≤ℤ (e +ℤ pos 512)
  place_natural = omega (zarith, h.0, parts_add e (pos 512))

  pub place_inside : place_of e < estimate_count
  place_inside = omega (zarith, h.1, natural (e +ℤ pos 512) place_natural, parts_add e (pos 512))

  place_back : estimate_at (place_of e) ≡ e
  place_back = ap (λ (z : ℤ). z -ℤ pos 512) (natural (e +ℤ pos 512) place_natural) ∙ back e

-- ---- the entries

pub nearest-small : (e : ℤ) → InTable e → nat_abs (nearest e) ≤ 16
unfolding nearest
nearest-small (pos a) h = omega (arith, within-table (pos a) h)
nearest-small (negsuc a) h = rw (abs_neg (pos (nearest_size (suc a)))) (omega (arith, within-table (negsuc a) h))

pub table-length : length selection_table ≡ estimate_count
unfolding selection_table
table-length = length-list_from 0 estimate_count (λ k. nearest (estimate_at k))

pub entry-at_place : (k : ℕ) → k < estimate_count → at selection_table k ≡ nearest (estimate_at k)
unfolding selection_table
entry-at_place k h =
    let e : 0 + k ≡ k = omega arith in
    getD_list_from 0 estimate_count (λ k. nearest (estimate_at k)) k h ∙ ap (λ (n : ℕ). nearest (estimate_at n)) e

pub entry-small : (k : ℕ) → k < estimate_count → nat_abs (at selection_table k) ≤ 16
entry-small k h = rw (entry-at_place k h) (nearest-small (estimate_at k) (estimate_in_table k h))

pub table_rule : TableRule
table_rule e h = (place_inside e h, entry-at_place (place_of e) (place_inside e h) ∙ ap nearest (place_back e h))

-- ---- the entry, held back, is the choice

-- the nearest to a magnitude that steps meet is at most p + 1, and p where the rule cuts
least_size : (p a : ℕ) → a ≤ 32 * p + 17 → min (nearest_size a) p ≡ digit_size p a
least_size p a h = by_case (le_or_lt a (p * 32))
  where
    by_case : (a ≤ p * 32) ⊎ (p * 32 < a) → min (nearest_size a) p ≡ digit_size p a
    by_case (inl l) = rw (digit_size_round p a l) (omega arith)
    by_case (inr l) = rw (digit_size_cut p a l) (omega arith)

held_negative : (p a : ℕ) → held p (neg_ℤ (pos a)) ≡ neg_ℤ (pos (min a p))
unfolding held
held_negative p zero = rw (zero-min p)
held_negative p (suc a) = refl

pub held-rounded : (p : ℕ) (e : ℤ) → nat_abs e ≤ 32 * p + 17 → held p (nearest e) ≡ rounded p e
unfolding nearest rounded held
held-rounded p (pos a) h = ap pos (least_size p a h)
held-rounded p (negsuc a) h = held_negative p (nearest_size (suc a)) ∙ ap (λ (n : ℕ). neg_ℤ (pos n)) (least_size p (suc a) h)

pub table_selects : TableSelects
unfolding select
table_selects p u w hu hp h =
    let s = estimate-small p u hu w h in
    let t = in_table (estimate u w) (omega (arith, s)) in
    (t, ap (held p) (table_rule (estimate u w) t).1 ∙ held-rounded p (estimate u w) s)
