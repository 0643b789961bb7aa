-- The invariant: the first i words are those of the header, and the others are as they came.
use mathlib.Core.Path.{◌≡◌}
use Prim.Native.Nat.{◌≤◌}
use lib.ListN.{length}
use lib.Seq.{sets}
use Rattle.integers.specs.Flat.{list_from}
use Rattle.emethod_c.proofs.Words.{word}
use Rattle.emethod_c.proofs.put_header_words.Given as goal

abbrev pub invariant-loop-i : goal.invariant-loop-i
invariant-loop-i l = (l.i ≤ 7) × (length l.words ≡ length l.initial.words) × (l.words ≡ sets l.initial.words 0 (list_from 0 l.i (word l.h l.k)))
