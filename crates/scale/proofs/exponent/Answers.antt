-- By the length of a in bits.
use mathlib.Core.Path.{sym, ◌∙◌}
use native.Mathlib.Omega.{arith}
use Rattle.scale.proofs.LeadingZeros.{length_most, exact_is, between_is}
use Rattle.scale.proofs.exponent.Goals as goal

pub pow2-requires : goal.pow2-requires
pow2-requires c = omega (arith, length_most c.args.a c.requires)

pub returns-then-a-pow2 : goal.returns-then-a-pow2
returns-then-a-pow2 c = exact_is c.args.a c.requires (c.if-a-pow2.true ∙ c.pow2.ensures)

pub returns-else-a-pow2 : goal.returns-else-a-pow2
returns-else-a-pow2 c = between_is c.args.a c.requires (λ e. c.if-a-pow2.false (e ∙ sym c.pow2.ensures))
