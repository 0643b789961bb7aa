use mathlib.Core.Path.{◌≡◌}
use Prim.Native.Nat.{◌+◌}
use native.Mathlib.Omega.{arith}
use Rattle.stepping.proofs.Stepping.{may-sum_first, reached_start, reached_may, reached_next, steps_have_room}
use Rattle.stepping.proofs.Counted.{counted_start, may-count, counted_next, may_multiply, additions_are}
use Rattle.stepping.proofs.run.Goals as goal

pub first_sums-sums-requires : goal.first_sums-sums-requires
first_sums-sums-requires g c = may-sum_first c.requires.0.passes c.last_digits-before.ensures

pub loop-j-init : goal.loop-j-init
loop-j-init g c =
    let p = c.requires.0.passes in (
      omega arith,
      (reached_start p c.last_digits-before.ensures c.first_sums-sums.ensures).1,
      counted_start _ p.limits.order_most c.first_times-times.ensures,
    )

pub step-newest-requires : goal.step-newest-requires
step-newest-requires g c =
    let v = c.loop-j.invariant in
    let p = c.requires in
    let m = c.loop-j-test.true in
    (reached_may p.0 m v.1, p.1, may-count v.2 (omega (arith, steps_have_room p.0, m)))

pub loop-j-preserved : goal.loop-j-preserved
loop-j-preserved g c =
    let v = c.loop-j.invariant in
    let o = c.step-newest.ensures in
    let n = reached_next c.requires.0 c.loop-j-test.true v.1 o.step in
    (omega arith, n, counted_next v.2 n.between.last o.counted)

pub entries-entries-requires : goal.entries-entries-requires
entries-entries-requires g c = (c.requires.0.passes.limits.order_most, c.requires.1)

pub additions-requires : goal.additions-requires
additions-requires g c =
    let b = c.requires.0 in
    let v = c.loop-j.invariant in
    let o : c.loop-j.j ≡ c.args.made = omega arith in
    let m : c.args.k + c.args.made ≡ c.args.k + c.loop-j.j = omega arith in
    let order = b.passes.limits.order_most in (
      steps_have_room b,
      order,
      may_multiply v.2 order m v.1.digits c.entries-entries.ensures (omega (arith, steps_have_room b, v.0)),
    )

pub returns : goal.returns
returns g c =
    let b = c.requires.0 in
    let v = c.loop-j.invariant in
    let o : c.loop-j.j ≡ c.args.made = omega arith in
    let m : c.args.k + c.args.made ≡ c.args.k + c.loop-j.j = omega arith in
    let a = additions_are v.2 b.passes.limits.order_most m v.1.digits c.entries-entries.ensures c.additions.ensures in
    record { residuals = rw o at v.1.residuals; digits = rw o at v.1.digits; additions = rw o at a }
