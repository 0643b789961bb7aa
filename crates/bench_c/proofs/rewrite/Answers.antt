use native.Mathlib.Omega.{arith}
use Rattle.bench_c.proofs.Rewriting.{rewrite_none, rewrite_turn, rewrite_all}
use Rattle.bench_c.proofs.rewrite.Goals as goal

pub loop-init : goal.loop-init
loop-init c = rewrite_none _ _

pub loop-preserved : goal.loop-preserved
loop-preserved c = rewrite_turn c.args.t c.loop.counter _ c.loop.out _ c.loop.invariant c.write_trace-in-loop.ensures.buffer

pub returns : goal.returns
returns c =
    let w = c.write_trace in
    rewrite_all c.args.t _ c.loop.counter c.args.out.now w.new.out c.loop.out w.result c.unwrap_or-size.result
    (omega arith) w.ensures.answer w.ensures.buffer c.unwrap_or-size.ensures c.loop.invariant
