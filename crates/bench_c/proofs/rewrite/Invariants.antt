-- The invariant: the bytes are as so many writes more leave them.
use mathlib.Core.Path.{◌≡◌}
use Rattle.bench_c.specs.Bench.{rewritten}
use Rattle.bench_c.proofs.rewrite.Given as goal

abbrev pub invariant-loop : goal.invariant-loop
invariant-loop l = l.out ≡ rewritten l.t l.counter l.initial.out
