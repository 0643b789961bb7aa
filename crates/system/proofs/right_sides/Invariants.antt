-- After i rows the first i places hold their right-hand sides, and the next one is known.
use mathlib.Core.Path.{◌≡◌}
use Prim.Native.Nat.{◌≤◌}
use lib.IntN.{pos}
use lib.ListN.{replicate}
use Rattle.integers.specs.Flat.{stores}
use Rattle.job.specs.Kind.{kind_of}
use Rattle.system.specs.Inner.{Apart}
use Rattle.system.specs.System.{right_place, right_side}
use Rattle.system.proofs.right_sides.Given as goal

abbrev pub invariant-loop-i : goal.invariant-loop-i
invariant-loop-i l = (1 ≤ l.i) × (l.i ≤ l.n) × (l.place ≡ right_place (kind_of l.fn.h.kind) l.n l.i) × Apart (kind_of l.fn.h.kind) l.n l.stride × (l.z ≡ stores (replicate 16 (pos 0)) (λ t. t) (right_side (kind_of l.fn.h.kind) l.n l.v) l.i)
