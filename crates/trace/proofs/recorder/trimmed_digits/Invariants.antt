-- `trace::trimmed_digits` meets its contract. The loop's invariant: the array holds the digits of the first j
-- steps, and 0 elsewhere. Assumes nothing.
use mathlib.Core.Path.{◌≡◌}
use Prim.Native.Nat.{◌≤◌}
use Rattle.trace.specs.Trace.{digit_list, digit_array}
use Rattle.trace.proofs.recorder.trimmed_digits.Given as goal

abbrev pub invariant-loop-j : goal.invariant-loop-j
invariant-loop-j l = (l.j ≤ l.k) × (l.t ≡ digit_array l.n l.j (digit_list l.n l.k l.d))
