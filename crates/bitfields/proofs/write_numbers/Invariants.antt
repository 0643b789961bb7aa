-- `bitfields::write_numbers` meets its contract. The loop's invariant: the first i numbers are in place, with
-- zeros to the byte after them.
use mathlib.Core.List.{map}
use mathlib.Core.Path.{◌≡◌}
use Prim.Native.Nat.{◌+◌, ◌*◌, ◌≤◌}
use lib.ListN.{length, take}
use Rattle.bitfields.specs.Layout.{each}
use Rattle.bitfields.specs.Twos.{encode}
use Rattle.bitfields.proofs.Steps.{so_far}
use Rattle.bitfields.proofs.write_numbers.Given as goal

abbrev pub invariant-loop-z : goal.invariant-loop-z
invariant-loop-z l = (l.z-index ≤ length l.nums) × (l.p ≡ l.at + l.w * l.z-index) × (l.dst ≡ so_far l.initial.dst l.at (each l.w (map (encode l.w) (take l.z-index l.nums)))) × (length l.dst ≡ length l.initial.dst)
