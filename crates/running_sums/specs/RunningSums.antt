-- The call that shows the order of additions (document 02, request 5), as a function of all that goes in. Its
-- contract is an equality with `sums_written` and `sums_list`. Columns and rows count from 0 here; the number
-- that is written for a column counts from 1.
use mathlib.Core.{Bool.Bool, Bool.cond, List.List, List.[], List.◌∷◌, List.◌++◌}
use Rattle.std.specs.Prelude.{ℕ, zero, suc, ◌+◌, ◌*◌, Result, Ok, Err}
use lib.{Dec.ltb, Dec.eqb, IntN.ℤ, IntN.pos, ListN.length, ListN.drop}
use Rattle.integers.specs.{Flat.entry, Flat.list_from, Sum.dot}
use Rattle.column.specs.Column.{skipped}
use Rattle.job.specs.{Refusal.Check, Refusal.first_refusal, Refused.number_of, declared.refusals.Refused.Refused}
use Rattle.state.specs.{State.digits_of, State.state_checks, declared.State.State}

-- ---- with the digits d, of a matrix of n rows

-- the sum of row i over the columns below j, of the entry times the digit
abbrev pub running_sum : (g : List ℤ) (d : ℕ → ℤ) (j i : ℕ) → ℤ
running_sum g d j i = dot j (entry g i) d

-- the words of column j: its number and the sums so far, this column included; none where it is skipped
abbrev pub column_words : (n : ℕ) (g : List ℤ) (d : ℕ → ℤ) (j : ℕ) → List ℤ
column_words n g d j = cond (skipped (d j)) [] (pos (suc j) ∷ list_from 0 n (running_sum g d (suc j)))

-- those of the columns below j, from the first
unfoldable pub words_below : (n : ℕ) (g : List ℤ) (d : ℕ → ℤ) (j : ℕ) → List ℤ
words_below n g d zero = []
words_below n g d (suc j) = words_below n g d j ++ column_words n g d j

-- how many of the columns below j are not skipped, and how many words these have
unfoldable pub columns_below : (d : ℕ → ℤ) (j : ℕ) → ℕ
columns_below d zero = 0
columns_below d (suc j) = cond (skipped (d j)) (columns_below d j) (columns_below d j + 1)

abbrev pub word_count_below : (n : ℕ) (d : ℕ → ℤ) (j : ℕ) → ℕ
word_count_below n d j = (n + 1) * columns_below d j

-- ---- of a state: with the digits of the last step made, which are 0 before the first step

abbrev pub last_digit : State → ℕ → ℤ
last_digit s = digits_of s.digits s.k

abbrev pub state_words : State → List ℤ
state_words s = words_below s.header.n s.g (last_digit s) s.header.n

abbrev pub word_count : State → ℕ
word_count s = word_count_below s.header.n (last_digit s) s.header.n

-- ---- the call: refused by 20, 24, 23. The list lent has `room` words

-- 23
abbrev pub sums_list_too_short : State → ℕ → Bool
sums_list_too_short s room = ltb room (word_count s)

unfoldable pub sums_checks : State → ℕ → List Check
sums_checks s room = state_checks s ++ ((23, sums_list_too_short s room) ∷ [])

abbrev pub sums_refusal : State → ℕ → ℕ
sums_refusal s room = first_refusal (sums_checks s room)

-- what the call answers in numbers: that of a refusal, 0 where there is none, and how many words it has written
pub record SumsWritten : Type 0 where
  pub refusal : ℕ
  pub count : ℕ

-- what a result of the call says in these numbers
abbrev pub sums_result : Result ℕ Refused → SumsWritten
sums_result (Ok n) = record { refusal = 0; count = n }
sums_result (Err e) = record { refusal = number_of e; count = 0 }

-- the answer: with a refusal no word is counted
unfoldable pub sums_written : State → ℕ → SumsWritten
sums_written s room =
    record {
      refusal = sums_refusal s room;
      count = cond (eqb (sums_refusal s room) 0) (word_count s) 0;
    }

-- the list: the words past those written as they were, and with a refusal all of them
unfoldable pub sums_list : State → List ℤ → List ℤ
sums_list s out = cond (eqb (sums_refusal s (length out)) 0) (state_words s ++ drop (word_count s) out) out
