-- The number, then the digits.
use Prim.Native.Nat.{◌+◌}
use native.Mathlib.Numerals.{add-one}
use native.Mathlib.Omega.{arith}
use Rattle.text.proofs.Putting.{write_then, length-decimal}
use Rattle.printout.proofs.put_step_line.Goals as goal

pub decimal-requires : goal.decimal-requires
decimal-requires c = omega (arith, length-decimal (c.args.t + 1))

pub put_digits-requires : goal.put_digits-requires
put_digits-requires c =
    (c.requires.0, c.requires.1, omega (arith, length-decimal (c.args.t + 1)))

pub returns : goal.returns
returns c =
    let e = add-one c.args.t in
    rw (← e) (write_then c.decimal.ensures (rw (← e) at c.put_digits.ensures))
