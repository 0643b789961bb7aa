-- Too little room, or the text that was put. At the end the lent buffer is the page's.
use mathlib.Core.Path.{sym, ◌∙◌}
use Rattle.std.proofs.Common.{rules}
use native.Mathlib.Omega.{arith}
use Rattle.table_text.proofs.Answers.{table-refused, table-accepted}
use Rattle.table_text.proofs.write_table.Goals as goal

pub returns-then-out-lt-TABLE_ROOM : goal.returns-then-out-lt-TABLE_ROOM
returns-then-out-lt-TABLE_ROOM c = let both = table-refused c.args.out.now (omega (arith, c.if-out-lt-TABLE_ROOM.true)) in
    record { answer = both.0; buffer = both.1 }

pub returns : goal.returns
returns c =
    let both = table-accepted c.args.out.now (omega (arith, c.if-out-lt-TABLE_ROOM.false)) c.put_table.ensures.put in
    record { answer = both.0; buffer = sym (sym both.1 ∙ search rules) }
