use Prim.Native.Nat.{ℕ, ◌<◌}
use native.Mathlib.Omega.{arith}
use lib.IntN.{ℤ}
use Rattle.choice.specs.Inner.{digit_from}
use Rattle.choice.proofs.Chosen.{digit_small, chosen_none, may_choose_next, digit-next, chosen_next}
use Rattle.counts.proofs.Counting.{counting_none, digit-counted}
use Rattle.signs.proofs.Listing.{digit_sign, listed_none, listed_next}
use Rattle.choice.proofs.choose_and_list.Goals as goal

pub loop-i-init : goal.loop-i-init
loop-i-init c = (omega arith, chosen_none, listed_none _ _ c.told-list, counting_none _ _ c.requires.3.size)

pub choose_row-d-requires : goal.choose_row-d-requires
choose_row-d-requires c =
    let l = c.loop-i in
    let p = c.requires in
    let t = c.loop-i-test.true in
    (omega (arith, t, p.2.order), p.1, may_choose_next l.invariant.1 (p.2.rows l.i t))

pub column_place-requires : goal.column_place-requires
column_place-requires c =
    let l = c.loop-i in
    let p = c.requires in
    let t = c.loop-i-test.true in
    (digit_sign _ _ (digit-next l.invariant.1 c.choose_row-d.ensures.digit) (digit_small (p.2.rows l.i t) p.0), omega (arith, t, p.2.order))

pub loop-i-preserved : goal.loop-i-preserved
loop-i-preserved c =
    let digits : ℕ → ℤ = digit_from c.args.units c.args.z.now c.args.s.now in
    let l = c.loop-i in
    let p = c.requires in
    let t = c.loop-i-test.true in
    let e = c.choose_row-d.ensures in
    let d = digit-next l.invariant.1 e.digit in
    let m : l.i < 16 = omega (arith, t, p.2.order) in (
      omega (arith, t),
      chosen_next l.invariant.1 e.newest e.stored e.residual,
      listed_next m l.invariant.2 _ d (digit_small (p.2.rows l.i t) p.0) _ _ c.column_place.ensures c.counted-count.ensures,
      digit-counted digits l.invariant.3 c.choose_row-d.type_inv d c.added.ensures m,
    )
