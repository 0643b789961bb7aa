-- A refused trace is not written.
use Rattle.bench_c.proofs.Rewriting.{refused_rewrites}
use Rattle.bench_c.proofs.bench_rewrite_trace.Goals as goal

pub returns-in-Err : goal.returns-in-Err
returns-in-Err c = refused_rewrites _ _ c.args.more c.args.out.now c.in-Err.ensures
