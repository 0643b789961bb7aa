-- The table of cases holds of the definitions: one test, which the check computes.
use mathlib.Core.Path.{refl}
use Rattle.integers.specs.Flat.{list_from, stores}
use Rattle.integers.specs.Sum.{dot, weight, sum, total}
use Rattle.bitfields.specs.Layout.{field, number, bits, values_from, octets, pack}
use Rattle.bitfields.specs.Twos.{encode, decode}
use Rattle.system.specs.Rows.{first_row_from}
use Rattle.system.specs.System.{curve_entry, system_entry, quotients_entry, matrix, right_side}
use Rattle.scale.specs.Scale.{every}
use Rattle.frame.specs.Frame.{frame_checks}
use Rattle.stepping.specs.Steps.{stepped_digits, stepped_residuals, steps, one_step}
use Rattle.recurrence.specs.Recurrence.{shifted, next_digit, next_residual, reading, select, rounded, estimate, cut_down, digit_size}
use Rattle.state.specs.State.{beyond, fresh, idle_state, breaks_limit}
use Rattle.evaluator.specs.Evaluator.{loaded, advanced, advance_checks, steps_made}
use Rattle.trace.specs.Trace.{digit_list, digit_array, state_record}
use Rattle.case_table.specs.Table.{table, outcome_of, digit_rows, TableSize, TableHolds}

pub table-size : TableSize
unfolding table
table-size = refl

pub table-holds : TableHolds
unfolding table outcome_of digit_rows list_from stores dot weight sum total field number bits values_from octets pack encode decode first_row_from curve_entry system_entry quotients_entry matrix right_side every frame_checks stepped_digits stepped_residuals shifted next_digit next_residual reading select rounded estimate cut_down digit_size beyond fresh idle_state breaks_limit loaded advanced advance_checks steps one_step steps_made digit_list digit_array state_record
table-holds = refl
