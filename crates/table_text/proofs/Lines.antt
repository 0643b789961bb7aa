-- Entries' lines one after the other: how long they are, and one line more at the end. Cited by the proofs of
-- the functions that put lines and by `Comparing.antt`.
use mathlib.Core.Path.{◌≡◌, refl, ap, ◌∙◌}
use mathlib.Core.List.{List, [], ◌∷◌, ◌++◌, append_assoc, append-nil}
use mathlib.Core.Logic.{◌⊎◌, inl, inr}
use Prim.Native.Nat.{ℕ, zero, suc, ◌+◌, ◌*◌, ◌/◌, ◌<◌, ◌≤◌}
use native.Mathlib.Numerals.{add-one}
use native.Mathlib.Omega.{arith}
use borrow.Author.Tests.{lt-ltb, le-ltb}
use lib.IntN.{ℤ, pos, negsuc, nat_abs}
use lib.ListN.{length, take, length-append}
use lib.Seq.{take-suc, take_all}
use Rattle.integers.specs.Flat.{at}
use Rattle.integers.proofs.Maximum.{le_or_lt}
use Rattle.selection.specs.Selection.{estimate_count, selection_table}
use Rattle.selection.proofs.Chosen.{table-length, entry-small}
use Rattle.text.specs.declared.Page.{Page}
use Rattle.text.specs.Text.{decimal_within, decimal, signed_decimal, line_end, RoomFor, Written}
use Rattle.text.proofs.Putting.{write_nothing, write_then}
use Rattle.table_text.specs.TableText.{entry_line, entry_lines, table_text, table_room}

-- ---- how long a line is

two_digits : (n : ℕ) → n < 100 → length (decimal n) ≤ 2
unfolding decimal_within
two_digits n h = by_case (le_or_lt 10 n)
  where
    by_case : (10 ≤ n) ⊎ (n < 10) → length (decimal n) ≤ 2
    by_case (inl l) = rw (le-ltb n 10 l, lt-ltb (n / 10) 10 (omega arith)) (omega arith)
    by_case (inr l) = rw (lt-ltb n 10 l) (omega arith)

three_signs : (z : ℤ) → nat_abs z ≤ 16 → length (signed_decimal z) ≤ 3
unfolding signed_decimal
three_signs (pos n) h = omega (arith, two_digits n (omega (arith, h)))
three_signs (negsuc n) h = omega (arith, two_digits (suc n) (omega (arith, h)))

pub length-line : (z : ℤ) → length (entry_line z) ≡ length (signed_decimal z) + 1
unfolding line_end
length-line z = length-append (signed_decimal z) (10 ∷ [])

pub short_line : (z : ℤ) → nat_abs z ≤ 16 → length (entry_line z) ≤ 4
short_line z h = omega (arith, length-line z, three_signs z h)

-- ---- a line put

pub write-line : {page mid after : Page} (z : ℤ) → Written page (signed_decimal z) mid → Written mid (10 ∷ []) after → Written page (entry_line z) after
unfolding line_end
write-line z p q = write_then p q

-- ---- the lines of the table's first k entries

abbrev pub first_lines : ℕ → List ℕ
first_lines k = entry_lines (take k selection_table)

lines-append : (a b : List ℤ) → entry_lines (a ++ b) ≡ entry_lines a ++ entry_lines b
unfolding entry_lines
lines-append [] b = refl
lines-append (z ∷ a) b = rw (lines-append a b, append_assoc (entry_line z) (entry_lines a) (entry_lines b))

pub first_next : (k : ℕ) → k < estimate_count → first_lines (suc k) ≡ first_lines k ++ entry_line (at selection_table k)
unfolding entry_lines
first_next k h =
    rw (take-suc selection_table k (pos 0) (omega (arith, table-length)))
    (lines-append (take k selection_table) (at selection_table k ∷ []) ∙ rw (append-nil (entry_line (at selection_table k))))

pub first_all : (k : ℕ) → estimate_count ≤ k → first_lines k ≡ table_text
unfolding table_text
first_all k h = ap entry_lines (take_all k selection_table (omega (arith, table-length)))

first_short : (k : ℕ) → k ≤ estimate_count → length (first_lines k) ≤ 4 * k
unfolding entry_lines
first_short zero h = omega arith
first_short (suc k) h =
    let z = at selection_table k in
    omega (
      arith,
      ap length (first_next k h),
      length-append (first_lines k) (entry_line z),
      first_short k (omega arith),
      short_line z (entry-small k h),
    )

-- ---- the table's lines put one after the other

module _ {page : Page} where
  pub lines_start : Written page (first_lines 0) page
  unfolding entry_lines
  lines_start = write_nothing page

  module _ (k : ℕ) {mid : Page} (p : Written page (first_lines k) mid) where
    -- `z` is what `nearest` gave
    module _ (h : k < estimate_count) {z : ℤ} (e : z ≡ at selection_table k) where
      pub line-room : page.at + table_room ≤ length page.out.now → RoomFor mid (entry_line z)
      line-room room = omega (arith, p.kept, p.put.ends, first_short k (omega arith), short_line z (rw e (entry-small k h)))

      pub lines_next : {after : Page} → Written mid (entry_line z) after → Written page (first_lines (k + 1)) after
      lines_next q = rw (add-one k, first_next k h, ← e) (write_then p q)

    pub lines_all : estimate_count ≤ k → Written page table_text mid
    lines_all h = rw (first_all k h) at p
