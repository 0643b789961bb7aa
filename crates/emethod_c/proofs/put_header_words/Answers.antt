use mathlib.Core.Path.{refl, ◌∙◌}
use native.Mathlib.Omega.{arith}
use lib.ListN.{length-set}
use Rattle.integers.specs.Flat.{list_from}
use Rattle.integers.proofs.Machine.{i64_kept}
use Rattle.emethod_c.proofs.Words.{header_turn, header_all}
use Rattle.emethod_c.proofs.put_header_words.Goals as goal

pub loop-i-init : goal.loop-i-init
unfolding list_from
loop-i-init c = (omega arith, refl, refl)

pub loop-i-preserved : goal.loop-i-preserved
loop-i-preserved c =
    let l = c.loop-i in
    let a = c.args in (
      omega arith,
      simp length-set l.invariant.1,
      header_turn a.h a.k a.words.now l.words l.i c.header_word.result _ l.invariant.2 c.header_word.ensures
          (i64_kept c.to_signed.result c.to_signed.type_inv ∙ c.to_signed.ensures),
    )

pub returns : goal.returns
returns c =
    let l = c.loop-i in
    let a = c.args in
    header_all a.h a.k a.words.now l.words l.i (omega arith) l.invariant.2
