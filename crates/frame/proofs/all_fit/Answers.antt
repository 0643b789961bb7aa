use mathlib.Core.Path.{◌≡◌}
use mathlib.Core.Bool.{true, false}
use Rattle.std.proofs.Common.{rules, tests}
use Rattle.std.proofs.lemmas.Iterator.{cases_from_all, YieldsList-from_slice}
use Rattle.bitfields.specs.Twos.{fitsb}
use Rattle.frame.proofs.Writer.{fit_told}
use Rattle.frame.proofs.all_fit.Goals as goal

pub returns : goal.returns
returns c =
    fit_told c.args.w c.args.v.now c.all.result
    (cases_from_all _ _ _ (λ z. fitsb c.args.w z ≡ true) (λ z. fitsb c.args.w z ≡ false) c.all.ensures.ran (YieldsList-from_slice c.args.v.now cc) (λ x q k. search (rules, tests)) (λ x q k. search (rules, tests)))
