-- `trace::digits_number` meets its contract. The loop's invariant: the first x digits spell v, and without
-- those past the c-th they spell what the first c of them spell. Assumes nothing.
use mathlib.Core.Path.{◌≡◌}
use Prim.Native.Nat.{◌-◌, ◌*◌, ◌/◌, ◌^◌, ◌<◌, ◌≤◌, min}
use Rattle.bitfields.specs.Layout.{number}
use Rattle.trace.specs.Inner.{digits_from, digit_fields}
use Rattle.trace.proofs.eights.digits_number.Given as goal

abbrev pub invariant-loop-x : goal.invariant-loop-x
invariant-loop-x l = (l.x ≤ 8) × (l.v < 2 ^ (5 * l.x)) × (l.v / 2 ^ (5 * (l.x - l.c)) ≡ number (digit_fields (digits_from l.d l.at (min l.x l.c))))
