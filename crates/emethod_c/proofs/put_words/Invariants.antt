-- The invariant: after the header's words stand the digits of the first j steps, and the other words are as
-- they came.
use mathlib.Core.Path.{◌≡◌}
use Prim.Native.Nat.{◌+◌, ◌*◌, ◌≤◌}
use lib.ListN.{length}
use lib.Seq.{sets}
use Rattle.trace.specs.Trace.{digit_list}
use Rattle.emethod_c.proofs.put_words.Given as goal

abbrev pub invariant-loop-j : goal.invariant-loop-j
invariant-loop-j l = (l.j ≤ l.k) × (length l.words ≡ length l.initial.words) × (l.to ≡ 7 + l.n * l.j) × (l.words ≡ sets l.initial.words 7 (digit_list l.n l.j l.d))
