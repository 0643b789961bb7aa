use mathlib.Core.Path.{◌≡◌, sym, ◌∙◌}
use native.Mathlib.Omega.{arith}
use Rattle.integers.proofs.Stores.{stores-zero}
use Rattle.system.proofs.Arrays.{stores-more, vector_stored}
use Rattle.state.specs.State.{digits_of}
use Rattle.integers.proofs.Machine.{i8_kept}
use Rattle.stepping.proofs.Digits.{first_digits}
use Rattle.counts.proofs.Counting.{step_digit}
use Rattle.stepping.proofs.last_digits.Goals as goal

pub returns-then-k-eq0 : goal.returns-then-k-eq0
returns-then-k-eq0 c = first_digits _ _ _ c.if-k-eq0.true

pub loop-i-init : goal.loop-i-init
loop-i-init c = (omega arith, sym (stores-zero _ _ _))

pub loop-i-preserved : goal.loop-i-preserved
loop-i-preserved c =
    let l = c.loop-i in (
      omega arith,
      stores-more _ (λ t. t) (digits_of c.args.digits.now c.args.k) l.i l.d _ l.invariant.1
          (i8_kept _ c.d-1.given ∙ step_digit c.args.digits.now c.args.k l.i c.if-k-eq0.false),
    )

pub returns : goal.returns
returns c =
    let l = c.loop-i in
    let e : l.i ≡ c.args.n = omega arith in
    (rw e at l.invariant.1) ∙ vector_stored c.args.n _ c.requires.1
