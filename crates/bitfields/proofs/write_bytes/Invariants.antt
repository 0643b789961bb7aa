-- `bitfields::write_bytes` meets its contract. The loop's invariant: the first j bytes are in place.
use mathlib.Core.Path.{◌≡◌}
use Prim.Native.Nat.{◌≤◌}
use lib.ListN.{length}
use lib.Seq.{paste}
use Rattle.bitfields.specs.Layout.{octets}
use Rattle.bitfields.proofs.write_bytes.Given as goal

abbrev pub invariant-loop-j : goal.invariant-loop-j
invariant-loop-j l = (l.j ≤ l.n) × (l.s ≡ paste l.initial.s l.at (octets l.n l.x) l.j) × (length l.s ≡ length l.initial.s)
