use mathlib.Core.Path.{◌≡◌}
use Prim.Native.Nat.{◌+◌, ◌*◌}
use native.Mathlib.Omega.{arith}
use Rattle.spans.proofs.ColumnSpan.{no_zeros}
use Rattle.counts.proofs.Counting.{no_entries, entries_next, entries-few}
use Rattle.signs.proofs.Table.{tabulated_next, negative_is, entry_kept}
use Rattle.signs.proofs.place_column.Goals as goal

pub loop-i-init : goal.loop-i-init
loop-i-init c =
    let e : 16 * c.args.j ≡ 16 * c.args.j + 0 = omega arith in
    (omega arith, rw e at c.requires.3, no_entries c.args.g.now c.args.j 0 (no_zeros _ 0))

pub counted-c-requires : goal.counted-c-requires
counted-c-requires c =
    let l = c.loop-i in
    omega (arith, entries-few c.args.g.now c.args.j l.i, l.invariant.2, c.loop-i-test.true, c.requires.0)

pub loop-i-preserved : goal.loop-i-preserved
loop-i-preserved c =
    let l = c.loop-i in
    let t = c.loop-i-test.true in
    let e : 16 * c.args.j + l.i + 1 ≡ 16 * c.args.j + (l.i + 1) = omega arith in (
      omega arith,
      rw e at
          (tabulated_next (omega (arith, c.requires.0, c.requires.1, t)) l.invariant.1 _ _
          (negative_is c.args.n c.args.g.now c.requires.0 c.requires.2 l.i c.args.j t c.requires.1)
          (entry_kept c.args.n c.args.g.now c.requires.0 c.requires.2 l.i c.args.j t c.requires.1)),
      entries_next c.args.g.now c.args.j l.i c.v-1.given l.invariant.2 c.counted-c.ensures,
    )
