-- Too little room, or the text that was put. At the end the lent buffer is the page's.
use mathlib.Core.Path.{sym, ◌∙◌}
use Rattle.std.proofs.Common.{rules}
use native.Mathlib.Omega.{arith}
use Rattle.printout.proofs.Answers.{print_refused, print_accepted}
use Rattle.printout.proofs.print_frame.Goals as goal

pub returns-then-out-lt-TEXT_ROOM : goal.returns-then-out-lt-TEXT_ROOM
returns-then-out-lt-TEXT_ROOM c =
    let a = c.args in
    let both = print_refused a.s.now a.out.now (omega (arith, c.if-out-lt-TEXT_ROOM.true)) in
    record { answer = both.0; buffer = both.1 }

pub returns : goal.returns
returns c =
    let a = c.args in
    let page = c.put_frame_text.new.page in
    let p = c.put_frame_text.ensures.put in
    let both = print_accepted a.s.now a.out.now page.at page.out.now (omega (arith, c.if-out-lt-TEXT_ROOM.false)) (omega (arith, p.ends)) p.holds in
    record { answer = both.0; buffer = sym (sym both.1 ∙ search rules) }
