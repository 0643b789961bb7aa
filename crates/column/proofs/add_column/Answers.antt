use mathlib.Core.Path.{◌≡◌}
use Prim.Native.Nat.{◌+◌, ◌-◌}
use native.Mathlib.Omega.{arith}
use Rattle.integers.specs.Flat.{stores}
use Rattle.column.specs.Column.{column_added}
use Rattle.column.proofs.Added.{digit-kept, may-add-row, row-added, no_row-added}
use Rattle.column.proofs.add_column.Goals as goal

pub loop-i-init : goal.loop-i-init
loop-i-init c = let a = c.args in (omega arith, omega arith, no_row-added a.g.now a.s.now a.j a.lo a.lo _ (omega arith))

pub sum_after-requires : goal.sum_after-requires
sum_after-requires c =
    let so_far : let a = c.args in
    c.loop-i.s ≡ stores a.s.now (λ t. a.lo + t) (column_added a.g.now a.j a.lo a.d a.s.now) (c.loop-i.i - a.lo) =
    rw (digit-kept c.args.d c.requires.digit) at c.loop-i.invariant.2 in
    may-add-row c.requires c.loop-i.s c.loop-i.i c.loop-i.invariant.0 c.loop-i-test.true so_far

pub loop-i-preserved : goal.loop-i-preserved
loop-i-preserved c =
    let so_far : let a = c.args in
    c.loop-i.s ≡ stores a.s.now (λ t. a.lo + t) (column_added a.g.now a.j a.lo a.d a.s.now) (c.loop-i.i - a.lo) =
    rw (digit-kept c.args.d c.requires.digit) at c.loop-i.invariant.2 in
    let r = row-added c.requires c.loop-i.s c.loop-i.i c.loop-i.invariant.0 c.loop-i-test.true so_far _ c.sum_after.ensures in
    (omega (arith, c.loop-i.invariant.0), omega (arith, c.loop-i-test.true, c.loop-i.invariant.0), rw (digit-kept c.args.d c.requires.digit) r)
