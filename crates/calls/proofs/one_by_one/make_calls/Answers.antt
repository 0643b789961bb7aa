use native.Mathlib.Omega.{arith}
use Rattle.calls.proofs.Parts.{turn_next, turn_counts, turn_last}
use Rattle.calls.proofs.one_by_one.make_calls.Goals as goal

pub overflow_add-additions : goal.overflow_add-additions
overflow_add-additions c =
    let a = c.args in
    let l = c.loop-rest in
    let m = c.make_call-m in
    omega (arith, turn_counts a.s a.words.now a.list.now l.list l.t l.additions l.place l.rest.now l.invariant c.in-len2-up.len_at_least m.result m.ensures.made c.requires)

pub loop-rest-preserved : goal.loop-rest-preserved
loop-rest-preserved c =
    let a = c.args in
    let l = c.loop-rest in
    let m = c.make_call-m in
    turn_next a.s a.words.now a.list.now l.list l.t l.additions l.place l.rest.now l.invariant c.in-len2-up.len_at_least m.result _ m.ensures.made m.ensures.list

-- the places stay within the list lent, whose length the borrow checker bounds
pub overflow_add-place : goal.overflow_add-place
overflow_add-place c =
    omega (arith, (loop-rest-preserved c).within, (loop-rest-preserved c).room, c.well_formed.1.1.0)

pub returns-clause-made : goal.returns-clause-made
returns-clause-made c =
    let a = c.args in
    let l = c.loop-rest in
    (turn_last a.s a.words.now a.list.now l.list l.t l.additions l.place l.rest.now l.invariant c.in_default.len_below).0

pub returns-clause-list : goal.returns-clause-list
returns-clause-list c =
    let a = c.args in
    let l = c.loop-rest in
    (turn_last a.s a.words.now a.list.now l.list l.t l.additions l.place l.rest.now l.invariant c.in_default.len_below).1
