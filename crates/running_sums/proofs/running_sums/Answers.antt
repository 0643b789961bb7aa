-- A refused call leaves the list; else the words of the columns that are not skipped are put into it.
use native.Mathlib.Omega.{arith}
use Rattle.std.proofs.lemmas.Result.{err_from_is_err_and}
use Rattle.job.proofs.Numbers.{number_positive}
use Rattle.running_sums.proofs.Calls.{state_refuses, may_copy_digits, count_small, list_refuses, may-put, sums-put}
use Rattle.running_sums.proofs.running_sums.Goals as goal

pub returns-in_err-check : goal.returns-in_err-check
returns-in_err-check c =
    let p = err_from_is_err_and c.from_residual.result c.from_residual.ensures.1 in
    let both = state_refuses c.args.s c.args.out.now _ c.in_err-check.ensures (number_positive _) in
    record { answer = rw (p.1, p.2) both.0; list = both.1 }

pub last_digits-d-requires : goal.last_digits-d-requires
last_digits-d-requires c = may_copy_digits c.args.s c.args.out.now c.in_ok-check.ensures

pub overflow_add-count : goal.overflow_add-count
overflow_add-count c = omega (arith, may_copy_digits c.args.s c.args.out.now c.in_ok-check.ensures)

pub count_columns-requires : goal.count_columns-requires
count_columns-requires c = (may_copy_digits c.args.s c.args.out.now c.in_ok-check.ensures).1

pub overflow_mul-count : goal.overflow_mul-count
overflow_mul-count c =
    omega (arith, count_small c.args.s c.args.out.now c.in_ok-check.ensures _ c.last_digits-d.ensures _ c.count_columns.ensures)

pub returns-then-out-count : goal.returns-then-out-count
returns-then-out-count c =
    let a = c.args in
    let p = list_refuses a.s a.out.now c.in_ok-check.ensures _ c.last_digits-d.ensures _ c.count_columns.ensures c.if-out-count.true in
    record { answer = p.0; list = p.1 }

pub put_sums-requires : goal.put_sums-requires
put_sums-requires c =
    may-put c.args.s c.args.out.now c.in_ok-check.ensures _ c.last_digits-d.ensures _ c.count_columns.ensures c.if-out-count.false

pub returns : goal.returns
returns c =
    let a = c.args in
    let p = sums-put a.s a.out.now c.in_ok-check.ensures _ c.last_digits-d.ensures _ c.count_columns.ensures c.if-out-count.false _ c.put_sums.ensures in
    record { answer = p.0; list = p.1 }
