-- `trace::write_eights` meets its contract. The loop's invariant: the first i eights are written after the
-- first 30 bits. Assumes nothing.
use mathlib.Core.Path.{◌≡◌}
use Prim.Native.Nat.{◌+◌, ◌*◌, ◌≤◌}
use lib.ListN.{length}
use Rattle.trace.specs.Inner.{digits_from, digit_fields, Appended}
use Rattle.trace.proofs.writer.write_eights.Given as goal

abbrev pub invariant-loop-i : goal.invariant-loop-i
invariant-loop-i l = (l.i ≤ l.g) × (l.q ≡ 3 + 5 * l.i) × Appended 30 (digit_fields (digits_from l.e 0 (8 * l.i))) l.initial.out l.out × (length l.out ≡ length l.initial.out)
