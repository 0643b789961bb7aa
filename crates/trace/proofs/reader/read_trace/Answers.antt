-- `trace::read_trace` meets its contract. The first condition that holds decides, and after the header's the
-- reader of the part does. Assumes nothing.
use native.Mathlib.Omega.{arith}
use Rattle.std.proofs.lemmas.Result.{err_from_is_err_and}
use Rattle.job.proofs.Numbers.{number_positive}
use Rattle.trace.specs.Trace.{recorded}
use Rattle.trace.proofs.Reading.{read_header, read_limited, read_rest, trace_read_short}
use Rattle.trace.proofs.reader.read_trace.Goals as goal

pub returns-then-s-lt4 : goal.returns-then-s-lt4
returns-then-s-lt4 c = trace_read_short c.args.s.now c.if-s-lt4.true

pub returns-in_err-check_trace_read : goal.returns-in_err-check_trace_read
returns-in_err-check_trace_read c =
    let p = err_from_is_err_and c.from_residual.result c.from_residual.ensures.1 in
    rw (p.1, p.2)
    (read_header c.args.s.now c.read_header-h.result c.if-s-lt4.false c.read_header-h.ensures _ c.in_err-check_trace_read.ensures (number_positive _))

pub read_part-requires : goal.read_part-requires
read_part-requires c =
    (omega arith, read_limited c.args.s.now c.read_header-h.result c.if-s-lt4.false c.read_header-h.ensures c.in_ok-check_trace_read.ensures)

pub returns : goal.returns
returns c =
    read_rest c.args.s.now c.read_header-h.result c.if-s-lt4.false c.read_header-h.ensures c.in_ok-check_trace_read.ensures
    (recorded c.read_part.result) c.read_part.ensures
