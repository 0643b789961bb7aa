-- By the tests.
use borrow.Author.Tests.{lt-ltb, le-ltb}
use Rattle.integers.proofs.Machine.{i64_kept}
use Rattle.bench_c.specs.Bench.{probed}
use Rattle.bench_c.proofs.probe.Goals as goal

pub returns-then-row-ge-ROWS : goal.returns-then-row-ge-ROWS
unfolding probed
returns-then-row-ge-ROWS c = simp (le-ltb _ _ c.if-row-ge-ROWS.true)

pub returns-then-column-lt-ROWS : goal.returns-then-column-lt-ROWS
unfolding probed
returns-then-column-lt-ROWS c = rw (i64_kept _ c.result-1.given, lt-ltb _ _ c.if-row-ge-ROWS.false, lt-ltb _ _ c.if-column-lt-ROWS.true)

pub returns : goal.returns
unfolding probed
returns c = rw (i64_kept _ c.result-2-1.given, lt-ltb _ _ c.if-row-ge-ROWS.false, le-ltb _ _ c.if-column-lt-ROWS.false)
