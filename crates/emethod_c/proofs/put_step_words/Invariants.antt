-- The invariant: of the first x digits those of the n rows are put, and the other words are as they came.
use mathlib.Core.Path.{◌≡◌}
use Prim.Native.Nat.{◌≤◌, min}
use lib.ListN.{length}
use lib.Seq.{sets}
use Rattle.trace.specs.Inner.{digits_from}
use Rattle.emethod_c.proofs.put_step_words.Given as goal

abbrev pub invariant-loop-x : goal.invariant-loop-x
invariant-loop-x l = (l.x ≤ 16) × (length l.words ≡ length l.initial.words) × (l.words ≡ sets l.initial.words l.to (digits_from l.d l.from (min l.x l.n)))
