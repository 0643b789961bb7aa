-- What is promised of the running sums, over the definitions of RunningSums.antt. The contract says that the
-- call answers and leaves what these definitions say, so each statement here is one about the call. The
-- proofs are in proofs/Theorems.antt, proofs/PastOrder.antt and proofs/NextStep.antt: `sums_decided` is one
-- of `SumsDecided`, and so on.
use mathlib.Core.{Path.◌≡◌, Bool.false, Bool.cond, List.List, List.[]}
use Rattle.std.specs.Prelude.{ℕ, suc, ◌+◌, ◌-◌, ◌*◌, ◌<◌, ◌≤◌}
use lib.{Dec.eqb, IntN.ℤ, IntN.pos, IntN.◌+ℤ◌, IntN.◌-ℤ◌, IntN.◌*ℤ◌, ListN.length, ListN.take, ListN.drop}
use Rattle.integers.specs.Flat.{at}
use Rattle.column.specs.Column.{skipped}
use Rattle.job.specs.{Header.radix, Refusal.Decides}
use Rattle.recurrence.specs.Recurrence.{select}
use Rattle.state.specs.{State.digits_of, State.state_unit, State.all_steps, State.SameBelow, declared.State.State}
use Rattle.stepping.specs.Steps.{state_factor, one_step}
use Rattle.running_sums.specs.RunningSums.{running_sum, word_count_below, last_digit, state_words, word_count, sums_checks, sums_refusal, sums_written, sums_list}

-- ---- demand 1: refused by number c exactly when c's condition holds and none before it does, accepted
-- exactly when no condition holds

abbrev pub SumsDecided : Type 0
SumsDecided = (s : State) (room : ℕ) → Decides (sums_checks s room) (sums_written s room).refusal

-- a refusal leaves the list and counts no word
abbrev pub RefusedSums : Type 0
RefusedSums = (s : State) (out : List ℤ) → 0 < sums_refusal s (length out) → (sums_list s out ≡ out) × ((sums_written s (length out)).count ≡ 0)

-- after 0 steps there is nothing to write, whatever the room
abbrev pub NothingAtFirst : Type 0
NothingAtFirst = (s : State) → s.k ≡ 0 → (state_words s ≡ []) × (word_count s ≡ 0)

-- no entry past the order is looked at: of two states that agree below it the call answers and leaves the
-- same
pub record SumsAlike (s t : State) (out : List ℤ) : Type 0 where
  pub answer : sums_written s (length out) ≡ sums_written t (length out)
  pub list : sums_list s out ≡ sums_list t out

abbrev pub SumsBelow : Type 0
SumsBelow = (s t : State) (out : List ℤ) → SameBelow s t → SumsAlike s t out

-- ---- demand 2: what the call does

-- the words written are those of the columns that are not skipped
abbrev pub SumsFront : Type 0
SumsFront = (s : State) (out : List ℤ) → sums_refusal s (length out) ≡ 0 → take (sums_written s (length out)).count (sums_list s out) ≡ state_words s

-- words past those written keep their values, whether or not there is a refusal
abbrev pub SumsPast : Type 0
SumsPast =
    (s : State) (out : List ℤ) → drop (sums_written s (length out)).count (sums_list s out) ≡ drop (sums_written s (length out)).count out

-- n + 1 words for each column that is not skipped: where such a column j, from 0, has its number and its sums
abbrev pub ColumnStands : Type 0
ColumnStands =
    (s : State) (j : ℕ) → j < s.header.n → skipped (last_digit s j) ≡ false → let to = word_count_below s.header.n (last_digit s) j in
    (at (state_words s) to ≡ pos (suc j)) × ((i : ℕ) → i < s.header.n → at (state_words s) (to + 1 + i) ≡ running_sum s.g (last_digit s) (suc j) i)

-- the last of the sums of row i, or 0 where there are none
abbrev pub last_sum : State → ℕ → ℤ
last_sum s i = cond (eqb (word_count s) 0) (pos 0) (at (state_words s) (word_count s - s.header.n + i))

-- it is what the next step adds to z, times r^s in the residuals' unit: the digit and the residual of the
-- next step are those of r × (z + r^s × the last sum)
abbrev pub next_w : State → ℕ → ℤ
next_w s i = pos (radix s.header.code) *ℤ (at s.z i +ℤ pos (state_factor s) *ℤ last_sum s i)

abbrev pub NextStepAdds : Type 0
NextStepAdds =
    (s : State) → s.header.n ≤ 16 → s.k < all_steps → length s.z ≡ 16 → length s.digits ≡ 16 * all_steps → (i : ℕ) → i < s.header.n →
    (digits_of (one_step s).digits (suc s.k) i ≡ select s.header.p (state_unit s) (next_w s i))
    × (at (one_step s).z i ≡ next_w s i -ℤ pos (state_unit s) *ℤ select s.header.p (state_unit s) (next_w s i))
