-- The table and the choice by it in numbers: entries at ties and at both ends, a digit held back, and the
-- theorems at a tie, where what they promise is a number.
use mathlib.Core.Path.{◌≡◌, refl, sym}
use mathlib.Core.List.{[], ◌∷◌, map}
use Prim.Native.Nat.{◌<◌}
use native.Mathlib.Omega.{arith}
use lib.IntN.{pos, negsuc}
use Rattle.integers.specs.Flat.{at, list_from}
use Rattle.integers.proofs.Order.{zarith}
use Rattle.recurrence.specs.Recurrence.{estimate, cut_down, select}
use Rattle.selection.specs.Selection.{nearest, place_of, InTable, selection_table, held}
use Rattle.selection.proofs.Chosen.{table_rule, table_selects}

-- the first entry, those of -17, -16, -15, 15 and 16 parts, and the last
entries : map (at selection_table) (0 ∷ 495 ∷ 496 ∷ 497 ∷ 527 ∷ 528 ∷ 1023 ∷ []) ≡ negsuc 15 ∷ negsuc 0 ∷ negsuc 0 ∷ pos 0 ∷ pos 0 ∷ pos 1 ∷ pos 16 ∷ []
unfolding selection_table nearest list_from
entries = refl

-- 4 and -4 held back to 3, and what is within 3
held_to_3 : map (held 3) (pos 4 ∷ negsuc 3 ∷ negsuc 2 ∷ pos 2 ∷ []) ≡ pos 3 ∷ negsuc 2 ∷ negsuc 2 ∷ pos 2 ∷ []
unfolding held
held_to_3 = refl

-- the theorem on entries at -16 parts
tie_below : (place_of (negsuc 15) < 1024) × (at selection_table 496 ≡ negsuc 0)
unfolding nearest
tie_below = table_rule (negsuc 15) (omega zarith, omega zarith)

-- the theorem on the choice: at unit 64 the estimate of -31 is -16 parts, which is in the table, and the
-- digit by the table, which is -1, is the recurrence's
estimate-inside : InTable (negsuc 15)
unfolding estimate cut_down
estimate-inside = (table_selects 3 64 (negsuc 30) (omega arith) (omega arith) (omega arith)).0

digit_chosen : select 3 64 (negsuc 30) ≡ negsuc 0
unfolding estimate cut_down selection_table nearest list_from held
digit_chosen = sym (table_selects 3 64 (negsuc 30) (omega arith) (omega arith) (omega arith)).1
