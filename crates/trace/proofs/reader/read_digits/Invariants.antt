-- `trace::read_digits` meets its contract. The loop's invariant: the array holds the digits of the first j
-- steps, and 0 elsewhere. Assumes nothing.
use mathlib.Core.Path.{◌≡◌}
use Prim.Native.Nat.{◌+◌, ◌*◌, ◌≤◌}
use Rattle.bitfields.specs.Twos.{numbers}
use Rattle.trace.specs.Trace.{digit_array}
use Rattle.trace.proofs.reader.read_digits.Given as goal

abbrev pub invariant-loop-j : goal.invariant-loop-j
invariant-loop-j l = (l.j ≤ l.k) × (l.p ≡ 6 + 5 * (l.n * l.j)) × (l.d ≡ digit_array l.n l.j (numbers l.b 6 5 (l.n * l.k)))
