use mathlib.Core.Path.{◌≡◌}
use Prim.Native.Nat.{◌+◌, ◌-◌, ◌*◌}
use native.Mathlib.Omega.{arith}
use lib.ListN.{length-set}
use Rattle.recurrence.specs.Recurrence.{reading}
use Rattle.state.specs.State.{digits_of}
use Rattle.integers.proofs.Machine.{i64_kept}
use Rattle.evaluator.proofs.Arrays.{replaced_two, replaced_last, replaced_all}
use Rattle.evaluator.proofs.Horner.{may_read}
use Rattle.evaluator.proofs.put_readings.Goals as goal

pub readings_from-two-requires : goal.readings_from-two-requires
readings_from-two-requires c = (omega arith, λ t l. may_read c.requires.0 _ _ (omega arith) c.radix-r.ensures)

pub loop-i-preserved : goal.loop-i-preserved
loop-i-preserved c =
    let l = c.loop-i in
    let a = c.args in
    let next : 2 * (l.i + 1) ≡ 2 * l.i + 2 = omega arith in (
      omega arith,
      simp length-set l.invariant.1,
      rw next
          (replaced_two a.out.now a.h.n (reading c.radix-r.result (digits_of a.digits.now) a.k) l.out (2 * l.i) _ (omega arith) c.requires.1 l.invariant.2
          c.readings_from-two.ensures (i64_kept _ c.out-1.given) (i64_kept _ c.out-in-loop-i-1.given)),
    )

pub readings_from-last-requires : goal.readings_from-last-requires
readings_from-last-requires c = (omega arith, λ t l. may_read c.requires.0 _ _ (omega arith) c.radix-r.ensures)

pub returns-then-n-eq1 : goal.returns-then-n-eq1
returns-then-n-eq1 c =
    let l = c.loop-i in
    let r = c.radix-r in
    let a = c.args in
    let last : 2 * l.i ≡ a.h.n - 1 = omega arith in
    rw r.ensures at
    (replaced_last a.out.now a.h.n (reading r.result (digits_of a.digits.now) a.k) l.out (a.h.n - 1) _ (omega arith) (omega arith) c.requires.1 (rw last at l.invariant.2)
    c.readings_from-last.ensures (i64_kept _ c.out-then-n-eq1-1.given))

pub returns-else-n-eq1 : goal.returns-else-n-eq1
returns-else-n-eq1 c =
    let l = c.loop-i in
    let r = c.radix-r in
    let a = c.args in
    rw r.ensures at (replaced_all a.out.now a.h.n (reading r.result (digits_of a.digits.now) a.k) l.out (2 * l.i) (omega arith) l.invariant.2)
