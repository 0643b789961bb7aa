-- What the contracts of the program cite; a reader of the promises can skip it: the table of cases as words,
-- which is how the program has it. The rows stand one after the other, and before each list how many words it
-- has.
use mathlib.Core.{Path.◌≡◌, Bool.cond, List.List, List.[], List.◌∷◌, List.◌++◌, List.map, List.flat_map}
use Rattle.std.specs.Prelude.{ℕ, zero, suc, ◌+◌, ◌/◌, ◌%◌, ◌<◌, ◌≤◌}
use lib.{Dec.ltb, IntN.ℤ, IntN.pos, ListN.length, ListN.get_or, ListN.take, ListN.drop, ListN.replicate}
use Rattle.integers.specs.Flat.{at}
use Rattle.frame.specs.Frame.{most_bytes}
use Rattle.case_table.specs.Table.{Case, table}

abbrev pub sized : List ℤ → List ℤ
sized words = pos (length words) ∷ words

-- the frame's bytes, the refusal, the row, the scale, the numbers, how many rows of digits there are and each
-- of them, the readings, the trace's bytes
abbrev pub case_words : Case → List ℤ
case_words c =
    sized (map pos c.frame)
    ++ (pos c.outcome.refusal ∷ pos c.outcome.row ∷ pos c.outcome.scale ∷ [])
    ++ sized c.outcome.numbers
    ++ (pos (length c.outcome.digits) ∷ flat_map sized c.outcome.digits)
    ++ sized c.outcome.readings
    ++ sized (map pos c.outcome.trace)

-- The exact values are no result of a call and stand in the table alone.
unfoldable pub table_words : List ℤ
table_words = flat_map (λ (c : Case). sized (case_words c)) table

-- in k lines of 15
unfoldable pub lines : ℕ → List ℤ → List (List ℤ)
lines zero words = []
lines (suc k) words = take 15 words ∷ lines k (drop 15 words)

-- 124 lines have room for 1,860 words, 7 more than there are
unfoldable pub table_lines : List (List ℤ)
table_lines = lines 124 (table_words ++ replicate 7 (pos 0))

-- the word at a place, and 0 past the last line
abbrev pub word_at : List (List ℤ) → ℕ → ℤ
word_at ls place = cond (ltb place 1860) (at (get_or ls (place / 15) []) (place % 15)) (pos 0)

-- ---- what the program's comparisons say of words

-- the word at a place is the number n, which is no more than the bytes of the longest frame
pub record Said (ls : List (List ℤ)) (place n : ℕ) : Type 0 where
  pub number : word_at ls place ≡ pos n
  pub small : n ≤ most_bytes

-- the list at a place, with its size before it, is the first n numbers of v
pub record Listed (ls : List (List ℤ)) (place : ℕ) (v : List ℤ) (n : ℕ) : Type 0 where
  pub size : word_at ls place ≡ pos n
  pub enough : n ≤ length v
  pub each : (i : ℕ) → i < n → word_at ls (place + 1 + i) ≡ at v i
