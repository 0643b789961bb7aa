use Prim.Native.Nat.{◌<◌, ◌≤◌}
use native.Mathlib.Omega.{arith}
use Rattle.std.proofs.Common.{rules, tests}
use Rattle.std.proofs.lemmas.Iterator.{cases_from_any, YieldsList-from_slice}
use lib.ListN.{take}
use Rattle.state.proofs.Digits.{some_marked}
use Rattle.state.proofs.some_row.Goals as goal

pub returns : goal.returns
returns c =
    some_marked c.args.n c.args.marks c.any.result (omega arith)
    (cases_from_any _ _ _ (λ a. 0 < a) (λ a. a ≤ 0) c.any.ensures.ran (YieldsList-from_slice (take c.args.n c.args.marks) cc) (λ x q k. search (rules, tests)) (λ x q k. search (rules, tests)))
