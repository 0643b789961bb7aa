-- The invariant: the rows below i have their products with column 0's digit.
use mathlib.Core.Path.{◌≡◌}
use Prim.Native.Nat.{◌≤◌}
use Rattle.integers.specs.Flat.{filled}
use Rattle.spans.specs.Inner.{first_product}
use Rattle.spans.proofs.first_products.Given as goal

abbrev pub invariant-loop-i : goal.invariant-loop-i
invariant-loop-i l = (l.i ≤ l.n) × (l.s ≡ filled (first_product l.g l.d) l.initial.s l.i)
