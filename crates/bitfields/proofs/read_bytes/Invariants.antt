-- `bitfields::read_bytes` meets its contract. The loop's invariant: x is the number of the first j bytes, so
-- it has 8 * j bits.
use mathlib.Core.Path.{◌≡◌}
use Prim.Native.Nat.{◌*◌, ◌^◌, ◌<◌, ◌≤◌}
use lib.ListN.{take, drop}
use Rattle.bitfields.specs.Layout.{number8}
use Rattle.bitfields.proofs.read_bytes.Given as goal

abbrev pub invariant-loop-j : goal.invariant-loop-j
invariant-loop-j l = (l.j ≤ l.n) × (l.x ≡ number8 (take l.j (drop l.at l.s))) × (l.x < 2 ^ (8 * l.j))
