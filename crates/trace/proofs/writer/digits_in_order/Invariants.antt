-- `trace::digits_in_order` meets its contract. The loop's invariant: the digits of the first j steps stand
-- one after the other. Assumes nothing.
use mathlib.Core.Path.{◌≡◌}
use Prim.Native.Nat.{◌*◌, ◌≤◌}
use lib.ListN.{length}
use Rattle.trace.specs.Trace.{digit_list}
use Rattle.trace.specs.Inner.{digits_from}
use Rattle.trace.proofs.writer.digits_in_order.Given as goal

abbrev pub invariant-loop-j : goal.invariant-loop-j
invariant-loop-j l = (l.j ≤ l.k) × (l.to ≡ l.n * l.j) × (length l.e ≡ 960) × (digits_from l.e 0 (l.n * l.j) ≡ digit_list l.n l.j l.d)
