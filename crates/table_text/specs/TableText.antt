-- The selection table as text (document 02, 4/14), one decimal entry a line, and how a text that somebody has
-- is held against it.
use mathlib.Core.{Path.◌≡◌, Bool.Bool, Bool.true, Bool.false, Bool.cond, Bool.◌&&◌, List.List, List.[], List.◌∷◌, List.◌++◌, Logic.◌↔◌}
use Rattle.std.specs.Prelude.{ℕ, suc, ◌*◌, Option, None, Some, Result, Ok, Err}
use lib.{Dec.eqb, Dec.ltb, IntN.ℤ, ListN.length, ListN.drop}
use Rattle.job.specs.{Refusal.Check, Refusal.first_refusal, Refusal.Decides, Refused.number_of, declared.refusals.Refused.Refused}
use Rattle.selection.specs.Selection.{estimate_count, selection_table}
use Rattle.text.specs.Text.{signed_decimal, line, with_text}

-- ---- the text

-- the line of an entry
abbrev pub entry_line : ℤ → List ℕ
entry_line z = line (signed_decimal z) []

-- the lines of entries, one after the other
unfoldable pub entry_lines : List ℤ → List ℕ
entry_lines [] = []
entry_lines (z ∷ zs) = entry_line z ++ entry_lines zs

unfoldable pub table_text : List ℕ
table_text = entry_lines selection_table

-- ---- write_table: refused by 23. It is lent `room` bytes

-- the room that is asked for: a line of the table has at most 4 bytes
abbrev pub table_room : ℕ
table_room = 4 * estimate_count

-- 23: fewer bytes than are enough
abbrev pub table_buffer_too_short : ℕ → Bool
table_buffer_too_short room = ltb room table_room

unfoldable pub table_checks : ℕ → List Check
table_checks room = (23, table_buffer_too_short room) ∷ []

abbrev pub table_refusal : ℕ → ℕ
table_refusal room = first_refusal (table_checks room)

-- demand 1
abbrev pub TableDecided : Type 0
TableDecided = (room : ℕ) → Decides (table_checks room) (table_refusal room)

-- what write_table answers in numbers: that of a refusal, 0 where there is none, and that of the bytes put
pub record TableWritten : Type 0 where
  pub refusal : ℕ
  pub length : ℕ

-- what a result of write_table says in these numbers
abbrev pub table_written : Result ℕ Refused → TableWritten
table_written (Ok n) = record { refusal = 0; length = n }
table_written (Err e) = record { refusal = number_of e; length = 0 }

-- the number of bytes, 0 when refused
unfoldable pub table_answer : ℕ → TableWritten
table_answer room = record { refusal = table_refusal room; length = cond (eqb (table_refusal room) 0) (length table_text) 0 }

-- the text, and the bytes past it as they were; with a refusal all bytes as they were
unfoldable pub table_buffer : List ℕ → List ℕ
table_buffer out = cond (eqb (table_refusal (length out)) 0) (with_text out 0 table_text) out

-- ---- compare_table: a text s held against the table, line by line

-- s begins with the text
unfoldable pub begins_with : (s text : List ℕ) → Bool
begins_with s [] = true
begins_with [] (c ∷ text) = false
begins_with (b ∷ s) (c ∷ text) = eqb b c && begins_with s text

-- how many of the entries, from the first, have their lines in s, before the first that has not
unfoldable pub agreeing : (entries : List ℤ) (s : List ℕ) → ℕ
agreeing [] s = 0
agreeing (z ∷ zs) s = cond (begins_with s (entry_line z)) (suc (agreeing zs (drop (length (entry_line z)) s))) 0

-- whether a text is the table's, and how many entries agree before the first that does not
pub record Compared : Type 0 where
  pub same : Bool
  pub agreeing : ℕ

-- what a result of compare_table says of them: the place of the first entry that does not agree, or the number
-- of the entries where all do and more follows; none where the text is the table's
abbrev pub table_compared : Option ℕ → Compared
table_compared None = record { same = true; agreeing = estimate_count }
table_compared (Some k) = record { same = false; agreeing = k }

-- all entries agree, and nothing follows
unfoldable pub compared : List ℕ → Compared
compared s =
    record {
      same = eqb (agreeing selection_table s) estimate_count && eqb (length s) (length table_text);
      agreeing = agreeing selection_table s;
    }

-- then s is the table's text, and no other text is found to be the same
abbrev pub SameText : Type 0
SameText = (s : List ℕ) → ((compared s).same ≡ true) ↔ (s ≡ table_text)
