use mathlib.Core.Path.{◌∙◌}
use native.Mathlib.Omega.{arith}
use Rattle.counts.proofs.Counting.{no_entries, entries_next, entries-few, entries_all}
use Rattle.counts.proofs.column_entries.Goals as goal

pub returns-then-span : goal.returns-then-span
returns-then-span c =
    let a = c.args in
    let s = c.requires.2 in
    no_entries a.g.now a.j _ s.1 ∙ entries_all a.g.now a.j a.n a.span.start (omega (arith, s.0)) (λ t l m. c.requires.3.1 t (omega (arith, c.if-span.true)) m)

pub loop-i-init : goal.loop-i-init
loop-i-init c =
    let a = c.args in (
      omega arith,
      omega (arith, c.if-span.false, c.requires.3.0),
      entries_next a.g.now a.j a.span.start c.counted-arg-1.given (no_entries a.g.now a.j _ c.requires.2.1) c.counted-c.ensures,
    )

pub counted-c-requires-in-loop-i : goal.counted-c-requires-in-loop-i
counted-c-requires-in-loop-i c =
    let l = c.loop-i in
    omega (arith, entries-few c.args.g.now c.args.j l.i, l.invariant.2, c.loop-i-test.true, c.requires.3.0, c.requires.1)

pub loop-i-preserved : goal.loop-i-preserved
loop-i-preserved c =
    let l = c.loop-i in (
      omega (arith, l.invariant.0),
      omega (arith, c.loop-i-test.true, c.requires.3.0),
      entries_next c.args.g.now c.args.j l.i c.counted-arg-in-loop-i-1.given l.invariant.2 c.counted-c-in-loop-i.ensures,
    )

pub returns : goal.returns
returns c =
    let l = c.loop-i in
    l.invariant.2
    ∙ entries_all c.args.g.now c.args.j c.args.n l.i l.invariant.1 (λ t a b. c.requires.3.1 t (omega (arith, c.loop-i-test.false)) b)
