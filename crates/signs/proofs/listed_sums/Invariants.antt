-- The invariant: each row has its sum over the places seen.
use mathlib.Core.Path.{◌≡◌}
use lib.ListN.{length}
use Rattle.signs.specs.Inner.{ListedSums}
use Rattle.signs.proofs.listed_sums.Given as goal

abbrev pub invariant-loop-place : goal.invariant-loop-place
invariant-loop-place l = (length l.s ≡ 16) × ListedSums l.t l.list l.place-index l.s
