-- The additions of every job fit the 16 bits that they have in an answer.
use Prim.Native.Nat.{ℕ, ◌-◌, ◌≤◌}
use native.Mathlib.Nat.{mul-le-mul}
use native.Mathlib.Omega.{arith}
use Rattle.additions.specs.Additions.{most_entries}
use Rattle.job.specs.Kind.{Kind, polynomial, rational, system, quotients, unused}
use Rattle.job.proofs.Limits.{last-small}
use Rattle.header.specs.Header.{header_of}
use Rattle.frame.proofs.Valid.{accepted-frame}
use Rattle.frame.proofs.Theorems.{frame-scale}
use Rattle.accuracy.specs.Accuracy.{kind, order, scale_of, last_step_of, budgets, after}
use Rattle.accuracy.proofs.Demand3.{accurate}
use Rattle.accuracy.proofs.Runs.{smaller-within}
use Rattle.emethod_c.specs.Foreign.{AdditionsFit}

-- no matrix has more than 16 × 16 entries
entries-small : (k : Kind) (n : ℕ) → n ≤ 16 → most_entries k n ≤ 256
entries-small polynomial n h = omega arith
entries-small rational n h = omega arith
entries-small system n h = omega (arith, mul-le-mul h h)
entries-small quotients n h = omega arith
entries-small unused n h = omega arith

pub additions-fit : AdditionsFit
additions-fit frame calls ok =
    let a = accurate frame ok calls in
    let l : last_step_of frame ≤ 60 = last-small (header_of frame) (scale_of frame) (frame-scale frame ok).limits in
    let e = entries-small (kind frame) (order frame) ((accepted-frame frame).0 ok).valid.limits.order_most in
    let k : (after frame calls).k - 1 ≤ 59 = omega (arith, a.steps_made, smaller-within (last_step_of frame) (budgets calls)) in
    omega (arith, a.additions_by_kind, mul-le-mul k e)
