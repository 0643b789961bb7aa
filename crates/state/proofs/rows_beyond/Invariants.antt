-- The outer invariant: the marks are those of t steps. The inner one: those of the rows below i are of one
-- step more.
use Prim.Native.Nat.{◌+◌, ◌≤◌}
use Rattle.state.specs.Inner.{RowsBeyond}
use Rattle.state.proofs.Search.{looked}
use Rattle.state.proofs.rows_beyond.Given as goal

abbrev pub invariant-loop-i : goal.invariant-loop-i
invariant-loop-i l = (l.i ≤ 16) × RowsBeyond l.bound l.d l.j (looked l.t l.i) l.m

abbrev pub invariant-loop-t : goal.invariant-loop-t
invariant-loop-t l = (l.j ≤ l.t) × (l.t ≤ l.j + l.c) × RowsBeyond l.bound l.d l.j (λ i. l.t) l.m
