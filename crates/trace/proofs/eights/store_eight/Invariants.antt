-- `trace::store_eight` meets its contract. The loop's invariant: the first x of the eight digits are stored.
-- Assumes nothing.
use mathlib.Core.Path.{◌≡◌}
use Prim.Native.Nat.{◌≤◌}
use lib.Seq.{sets}
use Rattle.integers.specs.Flat.{list_from}
use Rattle.trace.specs.Inner.{digit_in}
use Rattle.trace.proofs.eights.store_eight.Given as goal

abbrev pub invariant-loop-x : goal.invariant-loop-x
invariant-loop-x l = (l.x ≤ 8) × (l.d ≡ sets l.initial.d l.at (list_from 0 l.x (digit_in 8 l.u)))
