-- `trace::check_record` meets its contract. The first condition that holds decides. Assumes nothing.
use mathlib.Core.Path.{◌≡◌, sym, ◌∙◌}
use mathlib.Core.Bool.{false}
use Rattle.std.proofs.lemmas.Result.{err_from_is_err_and}
use Rattle.job.proofs.Numbers.{number_positive}
use Rattle.trace.specs.Trace.{too_many_steps}
use Rattle.trace.proofs.Valid.{few-steps}
use Rattle.trace.proofs.WriterRefusals.{writer_header-limits, refused-digit, writer_refused-header, refused_not, refused-room, refused-steps}
use Rattle.trace.proofs.writer.check_record.Goals as goal

pub returns-in_err-check_trace_header : goal.returns-in_err-check_trace_header
returns-in_err-check_trace_header c =
    let p = err_from_is_err_and c.from_residual.result c.from_residual.ensures.1 in
    rw (p.1, p.2) (writer_refused-header c.args.t.now c.args.room _ c.in_err-check_trace_header.ensures (number_positive _))

pub too_many_steps-requires : goal.too_many_steps-requires
too_many_steps-requires c = writer_header-limits c.args.t.now c.args.room c.in_ok-check_trace_header.ensures

pub returns-then-too_many_steps : goal.returns-then-too_many_steps
returns-then-too_many_steps c =
    refused-steps c.args.t.now c.args.room c.in_ok-check_trace_header.ensures (sym c.too_many_steps.ensures ∙ c.if-too_many_steps.true)

pub returns-then-beyond : goal.returns-then-beyond
returns-then-beyond c =
    let few : too_many_steps c.args.t.now.header c.args.t.now.k ≡ false =
    sym c.too_many_steps.ensures ∙ c.if-too_many_steps.false in
    refused-digit c.args.t.now c.args.room c.in_ok-check_trace_header.ensures c.beyond.result few c.beyond.ensures c.if-beyond.true

pub trace_length-requires : goal.trace_length-requires
trace_length-requires c =
    let few : too_many_steps c.args.t.now.header c.args.t.now.k ≡ false =
    sym c.too_many_steps.ensures ∙ c.if-too_many_steps.false in
    let t = c.args.t.now in
    (writer_header-limits t c.args.room c.in_ok-check_trace_header.ensures, few-steps t.header t.k few)

pub returns-then-room-trace_length : goal.returns-then-room-trace_length
returns-then-room-trace_length c =
    let few : too_many_steps c.args.t.now.header c.args.t.now.k ≡ false =
    sym c.too_many_steps.ensures ∙ c.if-too_many_steps.false in
    refused-room c.args.t.now c.args.room c.in_ok-check_trace_header.ensures c.beyond.result few c.beyond.ensures
    c.trace_length.result c.if-beyond.false c.trace_length.ensures c.if-room-trace_length.true

pub returns : goal.returns
returns c =
    let few : too_many_steps c.args.t.now.header c.args.t.now.k ≡ false =
    sym c.too_many_steps.ensures ∙ c.if-too_many_steps.false in
    refused_not c.args.t.now c.args.room c.in_ok-check_trace_header.ensures c.beyond.result few c.beyond.ensures
    c.trace_length.result c.if-beyond.false c.trace_length.ensures c.if-room-trace_length.false
