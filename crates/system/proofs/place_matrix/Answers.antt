-- By the kind.
use mathlib.Core.Path.{◌≡◌}
use lib.Pow.{pow_mono}
use Rattle.integers.specs.Flat.{flat_matrix}
use Rattle.job.specs.Header.{unit}
use Rattle.system.specs.System.{argument, denominator, no_denominator, curve_entry}
use Rattle.system.proofs.Numbers.{kind_is, argument_read, polynomial_is, rational_is, system_is, quotients_is}
use Rattle.system.proofs.Setup.{argument_placed, denominator_placed}
use Rattle.system.proofs.place_matrix.Goals as goal

pub place_rows-requires : goal.place_rows-requires
place_rows-requires c =
    let a = c.args in (
      c.requires.0.order_most,
      rw c.pow2.ensures (pow_mono {j = 40} c.requires.0.fraction_most),
      rw (kind_is _ a.h.kind c.of.ensures c.in-System.ensures) at c.requires.1,
      c.requires.2,
    )

pub returns-in-Polynomial : goal.returns-in-Polynomial
returns-in-Polynomial c =
    let a = c.args in
    let with_argument : c.place_argument.new.g ≡ flat_matrix a.h.n (curve_entry (argument a.v.now) no_denominator) =
    argument_read a.h.n a.v.now _ c.place_argument-arg-in-Polynomial-1.given (argument_placed a.h.n c.requires.0.order_most _ _ _ c.requires.2 c.place_argument.ensures) in
    polynomial_is a.h.kind a.h.n (unit a.h) a.v.now _ (kind_is _ a.h.kind c.of.ensures c.in-Polynomial.ensures) with_argument

pub returns-in-Rational : goal.returns-in-Rational
returns-in-Rational c =
    let a = c.args in
    let with_argument : c.place_argument-in-Rational.new.g ≡ flat_matrix a.h.n (curve_entry (argument a.v.now) no_denominator) =
    argument_read a.h.n a.v.now _ c.place_argument-arg-in-Rational-2-1.given (argument_placed a.h.n c.requires.0.order_most _ _ _ c.requires.2 c.place_argument-in-Rational.ensures) in
    rational_is a.h.kind a.h.n (unit a.h) a.v.now _ (kind_is _ a.h.kind c.of.ensures c.in-Rational.ensures)
    (denominator_placed a.h.n c.requires.0.order_most (argument a.v.now) (denominator a.h.n a.v.now) _ _ with_argument c.place_denominator.ensures)

pub returns-in-System : goal.returns-in-System
returns-in-System c =
    let a = c.args in
    system_is a.h.kind a.h.n (unit a.h) a.v.now _ c.pow2.result (kind_is _ a.h.kind c.of.ensures c.in-System.ensures) c.pow2.ensures c.place_rows.ensures

pub returns-in-Quotients : goal.returns-in-Quotients
returns-in-Quotients c =
    let a = c.args in
    quotients_is a.h.kind a.h.n (unit a.h) a.v.now _ (kind_is _ a.h.kind c.of.ensures c.in-Quotients.ensures) c.place_quotients.ensures
