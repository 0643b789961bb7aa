-- The table's text in numbers: how it begins and how long it is, the least room, and what is said of texts
-- that are damaged or go on.
use mathlib.Core.Path.{◌≡◌, refl, ap}
use mathlib.Core.Bool.{true, false}
use mathlib.Core.List.{List, [], ◌∷◌, ◌++◌}
use Prim.Native.Nat.{ℕ}
use lib.ListN.{length, take}
use Rattle.integers.specs.Flat.{list_from}
use Rattle.selection.specs.Selection.{nearest, selection_table}
use Rattle.text.specs.Text.{decimal_within, signed_decimal, line_end}
use Rattle.table_text.specs.TableText.{entry_lines, table_text, table_checks, table_answer, begins_with, agreeing, compared}
use Rattle.table_text.proofs.Comparing.{same_text}

-- -16 in two lines, and 2,962 bytes in all
first_two : take 8 table_text ≡ 45 ∷ 49 ∷ 54 ∷ 10 ∷ 45 ∷ 49 ∷ 54 ∷ 10 ∷ []
unfolding table_text entry_lines selection_table nearest list_from decimal_within signed_decimal line_end
first_two = refl

-- one byte of room too few: 23
short_buffer : table_answer 4095 ≡ record { refusal = 23; length = 0 }
unfolding table_checks table_answer
short_buffer = refl

least-room : table_answer 4096 ≡ record { refusal = 0; length = 2962 }
unfolding table_checks table_answer table_text entry_lines selection_table nearest list_from decimal_within signed_decimal line_end
least-room = refl

-- a text of the first line alone, and one whose second line is 16 without its sign
one_line : compared (45 ∷ 49 ∷ 54 ∷ 10 ∷ []) ≡ record { same = false; agreeing = 1 }
unfolding compared agreeing begins_with table_text entry_lines selection_table nearest list_from decimal_within signed_decimal line_end
one_line = refl

sign_lost : compared (45 ∷ 49 ∷ 54 ∷ 10 ∷ 49 ∷ 54 ∷ 10 ∷ []) ≡ record { same = false; agreeing = 1 }
unfolding compared agreeing begins_with table_text entry_lines selection_table nearest list_from decimal_within signed_decimal line_end
sign_lost = refl

-- the table's own text is found to be the same, with all its entries; with a line more it is not
own_text : compared table_text ≡ record { same = true; agreeing = 1024 }
unfolding compared agreeing begins_with table_text entry_lines selection_table nearest list_from decimal_within signed_decimal line_end
own_text = refl

line-more : compared (table_text ++ (49 ∷ 54 ∷ 10 ∷ [])) ≡ record { same = false; agreeing = 1024 }
unfolding compared agreeing begins_with table_text entry_lines selection_table nearest list_from decimal_within signed_decimal line_end
line-more = refl

-- by the theorem: whatever text is found to be the same has 2,962 bytes, and the table's own is found
same_length : (s : List ℕ) → (compared s).same ≡ true → length s ≡ 2962
unfolding table_text entry_lines selection_table nearest list_from decimal_within signed_decimal line_end
same_length s t = ap length ((same_text s).0 t)

own_found : (compared table_text).same ≡ true
own_found = (same_text table_text).1 refl
