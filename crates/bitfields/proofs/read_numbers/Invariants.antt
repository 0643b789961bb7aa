-- `bitfields::read_numbers` meets its contract. The loop's invariant: the first i words are the first i
-- numbers, and the others are as they came.
use mathlib.Core.List.{◌++◌}
use mathlib.Core.Path.{◌≡◌}
use Prim.Native.Nat.{◌+◌, ◌*◌, ◌≤◌}
use lib.ListN.{length, drop}
use Rattle.bitfields.specs.Twos.{numbers}
use Rattle.bitfields.proofs.read_numbers.Given as goal

abbrev pub invariant-loop-i : goal.invariant-loop-i
invariant-loop-i l = (l.i ≤ l.n) × (l.p ≡ l.at + l.w * l.i) × (l.out ≡ numbers l.s l.at l.w l.i ++ drop l.i l.initial.out) × (length l.out ≡ length l.initial.out)
