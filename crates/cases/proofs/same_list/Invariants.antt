-- The words passed are those of the list.
use Rattle.std.proofs.Common.{◌≡◌, ℕ, ◌+◌, ◌<◌, ◌≤◌, length}
use Rattle.integers.specs.Flat.{at}
use Rattle.cases.specs.Words.{Said, word_at}
use Rattle.cases.proofs.same_list.Given as goal

abbrev pub invariant-loop-i : goal.invariant-loop-i
invariant-loop-i l = (l.n ≤ length l.v) × Said l.t l.place l.n × ((k : ℕ) → k < l.i → word_at l.t (l.place + 1 + k) ≡ at l.v k)
