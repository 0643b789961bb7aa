-- The kinds of the code as those of the definitions.
use Rattle.std.specs.Prelude.{Option, None, Some}
use Rattle.job.specs.Kind.{Kind, polynomial, rational, system, quotients, unused}
use Rattle.job.specs.declared.kinds.Kind.{Kind as KindOfCode}
use Rattle.job.specs.declared.kinds.Kind.TheVariants.{Polynomial, Rational, System, Quotients}

abbrev pub kind_named : KindOfCode → Kind
kind_named Polynomial = polynomial
kind_named Rational = rational
kind_named System = system
kind_named Quotients = quotients

-- the code has no kind for an unused number
abbrev pub kind_said : Option KindOfCode → Kind
kind_said (Some k) = kind_named k
kind_said None = unused
