use Rattle.std.proofs.Common.{◌<◌, ◌≤◌, ◌^◌, arith}
use Rattle.text.proofs.Putting.{write_small, small-room, front_room, last-room, write-large}
use Rattle.text.proofs.Page.+decimal.Goals as goal

pub byte-requires : goal.byte-requires
byte-requires t c =
    let a = c.args in
    let l : a.n < 10 = omega arith in
    small-room a.self.now a.n l c.requires

pub returns-then-n-lt10 : goal.returns-then-n-lt10
returns-then-n-lt10 t c =
    let a = c.args in
    let l : a.n < 10 = omega arith in
    write_small a.self.now a.n l c.digit_char.ensures c.byte.ensures

pub decimal-requires : goal.decimal-requires
decimal-requires t c =
    let a = c.args in
    let l : 10 ≤ a.n = omega arith in
    let w : a.n < 2 ^ 64 = omega arith in
    (omega arith, front_room a.self.now a.n l w c.requires)

pub byte-requires-2 : goal.byte-requires-2
byte-requires-2 t c =
    let a = c.args in
    let l : 10 ≤ a.n = omega arith in
    let w : a.n < 2 ^ 64 = omega arith in
    last-room a.self.now a.n l w c.requires c.decimal.ensures

pub returns : goal.returns
returns t c =
    let a = c.args in
    let l : 10 ≤ a.n = omega arith in
    let w : a.n < 2 ^ 64 = omega arith in
    write-large a.self.now a.n l w c.digit_char-2.ensures c.decimal.ensures c.byte-2.ensures
