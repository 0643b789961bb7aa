-- The word, the number, the row where one is given, and the newline.
use mathlib.Core.Path.{◌≡◌, ap}
use native.Mathlib.Omega.{arith}
use Rattle.job.specs.Refused.{number_of, row_of}
use Rattle.text.proofs.Putting.{write_then, length-decimal}
use Rattle.printout.proofs.Lines.{refused-row, refused_plain, only_heavy}
use Rattle.printout.proofs.put_refused_text.Goals as goal
use Rattle.printout.proofs.put_refused_text.Goals.{in-HeavyRow, in_default}

pub natural_item-requires : goal.natural_item-requires
natural_item-requires c = omega (arith, length-decimal c.number.result)

pub natural_item-requires-in-HeavyRow : goal.natural_item-requires-in-HeavyRow
natural_item-requires-in-HeavyRow c =
    omega (arith, length-decimal c.number.result, length-decimal c.in-HeavyRow.row)

pub byte-requires : goal.byte-requires
byte-requires c =
    elim c.match-e.branch [
      | in-HeavyRow w ↦ rw w.page-is (omega (arith, length-decimal c.number.result, length-decimal w.in-HeavyRow.row))
      | in_default w ↦ rw w.page-is (omega (arith, length-decimal c.number.result))
    ]

pub returns : goal.returns
returns c =
    let number = rw c.number.ensures at c.natural_item.ensures in
    elim c.match-e.branch [
      | in-HeavyRow w ↦
          let given : row_of c.args.e ≡ w.in-HeavyRow.row = cc (ap row_of w.in-HeavyRow.is) in
          let row = rw (← given) at w.natural_item-in-HeavyRow.ensures in
          let end = rw w.page-is at c.byte.ensures in
          refused-row _ _ (ap number_of w.in-HeavyRow.is) (write_then c.bytes.ensures (write_then number (write_then row end)))
      | in_default w ↦
          let end = rw w.page-is at c.byte.ensures in
          refused_plain _ _ (only_heavy _ w.in_default.not-HeavyRow) (write_then c.bytes.ensures (write_then number end))
    ]
