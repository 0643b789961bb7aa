-- `trace::digit_of_byte` meets its contract. Assumes nothing.
use mathlib.Core.Path.{◌∙◌}
use Prim.Native.Nat.{◌%◌}
use native.Mathlib.Omega.{arith}
use Rattle.trace.proofs.Digit.{lowered_is}
use Rattle.integers.proofs.Machine.{i8_kept}
use Rattle.trace.proofs.eights.digit_of_byte.Goals as goal

pub returns : goal.returns
returns c =
    i8_kept c.narrow.result c.narrow.type_inv ∙ c.narrow.ensures ∙ lowered_is c.args.u (c.args.u % 32) (omega arith) c.requires c.to_signed.result c.to_signed.ensures
