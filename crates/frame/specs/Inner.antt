-- What the contracts of inner functions cite; a reader of the promises can skip it.
use mathlib.Core.{Bool.Bool, Bool.cond, List.List, List.[], List.◌∷◌, List.◌++◌}
use Rattle.std.specs.Prelude.{ℕ}
use lib.{Dec.ltb, Dec.eqb, IntN.ℤ, ListN.drop}
use Rattle.job.specs.{Header.count, Header.zero_header, Refusal.Check, Refusal.first_refusal, Refused.Verdict, declared.Header.Header}
use Rattle.header.specs.Header.{header_of}
use Rattle.frame.specs.{Frame.FrameRead, Frame.frame_numbers, Frame.layout_checks, Frame.frame_row}

-- the first refusal of the checks, of a job with the header h and the numbers v, and its row
unfoldable pub checks_verdict : List Check → Header → List ℤ → Verdict
checks_verdict cs h v = record { refusal = first_refusal cs; row = frame_row (first_refusal cs) h v }

-- the verdict of 8 and 15, where the search for a heavy row gives a, and b says whether 15's condition holds
abbrev pub numbers_verdict : ℕ → Bool → Verdict
numbers_verdict a b =
    let c = first_refusal ((8, ltb 0 a) ∷ (15, b) ∷ []) in
    record { refusal = c; row = cond (eqb c 8) a 0 }

-- the first of 1 to 7, 0 where there is none
unfoldable pub layout_refusal : List ℕ → ℕ
layout_refusal s = first_refusal (layout_checks s)

-- the answer of a refused reader: the number, the row given with it, and a header of zeros
abbrev pub refused_answer : ℕ → ℕ → FrameRead
refused_answer c row = record { refusal = c; row = row; header = zero_header }

-- what `unpack` answers and leaves: the numbers in the first words of v; with a refusal all words stay
unfoldable pub unpack_answer : List ℕ → FrameRead
unpack_answer s =
    record {
      refusal = layout_refusal s;
      row = 0;
      header = cond (eqb (layout_refusal s) 0) (header_of s) zero_header;
    }

unfoldable pub unpacked : List ℕ → List ℤ → List ℤ
unpacked s v = cond (eqb (layout_refusal s) 0) (frame_numbers s ++ drop (count (header_of s)) v) v
