-- The lines one after the other. They are short enough for the buffer.
use native.Mathlib.Omega.{arith}
use Rattle.text.proofs.Putting.{write_then}
use Rattle.printout.proofs.Jobs.{radix_code_small, order_small, made-small, length-header_line}
use Rattle.printout.proofs.Lines.{length-step_lines}
use Rattle.printout.proofs.put_job_text.Goals as goal

pub put_header_line-requires : goal.put_header_line-requires
put_header_line-requires c = (radix_code_small c.args.s c.requires.0, omega arith)

pub put_step_lines-requires : goal.put_step_lines-requires
put_step_lines-requires c =
    let t = c.args.s in
    (order_small t c.requires.0, made-small t c.requires.0, omega (arith, length-header_line t.header t.scale))

pub put_readings_line-requires : goal.put_readings_line-requires
put_readings_line-requires c =
    let t = c.args.s in (
      c.requires.0,
      omega (
        arith,
        length-header_line t.header t.scale,
        length-step_lines t 1 t.k (order_small t c.requires.0),
        made-small t c.requires.0,
      ),
    )

pub returns : goal.returns
returns c =
    write_then (write_then c.put_header_line.ensures c.put_step_lines.ensures) c.put_readings_line.ensures
