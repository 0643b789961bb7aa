-- The first condition that holds decides.
use mathlib.Core.Path.{◌≡◌}
use native.Mathlib.Omega.{arith}
use Rattle.state.specs.State.{header_broken}
use Rattle.state.proofs.Checks.{header_said, row_said, residual_said, header-passes, scale-passes, header_breaks, scale_breaks, steps_break, row_breaks, residual_breaks, digits_decide}
use Rattle.state.proofs.State.breaks_limit.Goals as goal

pub returns-then-is_err : goal.returns-then-is_err
returns-then-is_err c =
    let s = c.args.self.now in
    header_breaks s (header_said s _ c.is_err.ensures.value c.check_header.ensures) c.if-is_err.true

pub returns-then-scale_out_of_range : goal.returns-then-scale_out_of_range
returns-then-scale_out_of_range c =
    let s = c.args.self.now in
    scale_breaks s (header_said s _ c.is_err.ensures.value c.check_header.ensures) c.if-is_err.false c.scale_out_of_range.ensures c.if-scale_out_of_range.true

pub returns-then-last_step-self : goal.returns-then-last_step-self
returns-then-last_step-self c =
    let s = c.args.self.now in
    steps_break s (header_said s _ c.is_err.ensures.value c.check_header.ensures) c.if-is_err.false c.scale_out_of_range.ensures c.if-scale_out_of_range.false (omega (arith, c.last_step.ensures))

pub heavy_row-requires : goal.heavy_row-requires
heavy_row-requires c =
    let s = c.args.self.now in
    header-passes s (header_said s _ c.is_err.ensures.value c.check_header.ensures) c.if-is_err.false

pub returns-then-is_some : goal.returns-then-is_some
returns-then-is_some c =
    let s = c.args.self.now in
    row_breaks s (header_said s _ c.is_err.ensures.value c.check_header.ensures) c.if-is_err.false c.scale_out_of_range.ensures c.if-scale_out_of_range.false
    (omega (arith, c.last_step.ensures)) (row_said s _ c.is_some.ensures c.heavy_row.ensures) c.if-is_some.true

pub large_residual-requires : goal.large_residual-requires
large_residual-requires c =
    let s = c.args.self.now in
    let p : c.is_err.result ≡ header_broken s = header_said s _ c.is_err.ensures.value c.check_header.ensures in
    (header-passes s p c.if-is_err.false, scale-passes s p c.if-is_err.false c.scale_out_of_range.ensures c.if-scale_out_of_range.false)

pub returns-then-is_some-2 : goal.returns-then-is_some-2
returns-then-is_some-2 c =
    let s = c.args.self.now in
    residual_breaks s (header_said s _ c.is_err.ensures.value c.check_header.ensures) c.if-is_err.false c.scale_out_of_range.ensures c.if-scale_out_of_range.false
    (omega (arith, c.last_step.ensures)) (row_said s _ c.is_some.ensures c.heavy_row.ensures) c.if-is_some.false
    (residual_said s _ c.is_some-2.ensures c.large_residual.ensures) c.if-is_some-2.true

pub returns : goal.returns
returns c =
    let s = c.args.self.now in
    digits_decide s (header_said s _ c.is_err.ensures.value c.check_header.ensures) c.if-is_err.false c.scale_out_of_range.ensures c.if-scale_out_of_range.false
    (omega (arith, c.last_step.ensures)) (row_said s _ c.is_some.ensures c.heavy_row.ensures) c.if-is_some.false
    (residual_said s _ c.is_some-2.ensures c.large_residual.ensures) c.if-is_some-2.false _ c.bad_digit.ensures
