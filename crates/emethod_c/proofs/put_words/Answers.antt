use mathlib.Core.Path.{refl, ◌∙◌}
use Prim.Native.Nat.{◌*◌}
use native.Mathlib.Omega.{arith}
use native.Mathlib.Nat.{mul-suc}
use Rattle.trace.proofs.Digits.{digit_list-none}
use Rattle.trace.specs.Inner.{digits_from}
use Rattle.emethod_c.proofs.Words.{same_sets, words_turn, words_all}
use Rattle.emethod_c.proofs.put_words.Goals as goal

pub loop-j-init : goal.loop-j-init
loop-j-init c = (omega arith, refl, omega arith, rw (digit_list-none _ _))

pub loop-j-preserved : goal.loop-j-preserved
loop-j-preserved c =
    let l = c.loop-j in (
      omega (arith, c.loop-j-test.true),
      same_sets l.words _ l.to (digits_from c.args.d.now (16 * l.j) c.args.h.n) c.put_step_words.ensures ∙ l.invariant.1,
      omega (arith, l.invariant.2, mul-suc c.args.h.n l.j),
      words_turn c.args.d.now _ l.words _ c.args.h.n l.j l.to c.requires.0.order_least l.invariant.2 l.invariant.3 c.put_step_words.ensures,
    )

pub returns : goal.returns
returns c =
    let l = c.loop-j in
    words_all c.args.h c.args.k c.args.d.now c.args.words.now _ l.words l.j (omega arith) c.requires.2
    c.put_header_words.ensures l.invariant.3
