-- The state of a refused frame has zeros.
use Rattle.bench_c.proofs.Probing.{refused_probe}
use Rattle.bench_c.proofs.bench_probe_load.Goals as goal

pub returns-in-Err : goal.returns-in-Err
returns-in-Err c = refused_probe _ _ c.args.row c.args.column c.in-Err.ensures
