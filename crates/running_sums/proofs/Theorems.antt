-- The proofs of what is promised of the running sums, but for the next step, which is in NextStep.antt.
use mathlib.Core.Path.{◌≡◌, refl}
use mathlib.Core.Bool.{Bool, true, false, cond}
use mathlib.Core.List.{List, ◌++◌}
use Prim.Native.Nat.{ℕ}
use native.Mathlib.Omega.{arith}
use borrow.Author.Tests.{ne_eqb}
use lib.Dec.{eqb}
use lib.IntN.{ℤ}
use lib.ListN.{length, drop}
use lib.Seq.{take_at, drop_at}
use Rattle.job.proofs.Refusal.{decided}
use Rattle.state.specs.declared.State.{State}
use Rattle.running_sums.specs.RunningSums.{last_digit, state_words, word_count, sums_checks, sums_refusal, sums_written, sums_list}
use Rattle.running_sums.specs.Theorems.{SumsDecided, RefusedSums, NothingAtFirst, SumsFront, SumsPast, ColumnStands}
use Rattle.running_sums.proofs.Columns.{length_words}
use Rattle.running_sums.proofs.Places.{number_stands, sum_stands, none_listed}

-- ---- demand 1

pub sums_decided : SumsDecided
unfolding sums_written sums_checks
sums_decided s room = decided (sums_checks s room) tt

pub refused-sums : RefusedSums
unfolding sums_written sums_list
refused-sums s out h = let q = ne_eqb (sums_refusal s (length out)) 0 (λ e. omega arith) in (rw q refl, rw q refl)

pub nothing_at_first : NothingAtFirst
nothing_at_first s e =
    let h = none_listed s.header.n s.g (last_digit s) s.header.n (λ i. rw e refl) in
    (h.0, rw h.1 (omega arith))

-- ---- demand 2

-- there are as many words as are counted
length-state_words : (s : State) → length (state_words s) ≡ word_count s
length-state_words s = length_words s.header.n s.g (last_digit s) s.header.n

pub sums_front : SumsFront
unfolding sums_written sums_list
sums_front s out e = rw e (take_at (state_words s) _ (word_count s) (length-state_words s))

-- c words are put before those kept, or none is
kept_past : (b : Bool) (c : ℕ) (front out : List ℤ) → length front ≡ c → drop (cond b c 0) (cond b (front ++ drop c out) out) ≡ drop (cond b c 0) out
kept_past true c front out e = drop_at front (drop c out) c e
kept_past false c front out e = refl

pub sums_past : SumsPast
unfolding sums_written sums_list
sums_past s out = kept_past (eqb (sums_refusal s (length out)) 0) (word_count s) (state_words s) out (length-state_words s)

pub column_stands : ColumnStands
column_stands s j l e =
    let n = s.header.n in
    (number_stands n s.g (last_digit s) j e n (omega arith), sum_stands n s.g (last_digit s) j e n (omega arith))
