-- From bytes to a job, over the locals of the code: `a` is what `unpack` answered, `v` the array with the
-- numbers, `n` their count, `d` the verdict. Cited by the proofs of the frame reader and of load.
use mathlib.Core.Path.{◌≡◌, refl, sym, ap, ◌∙◌}
use mathlib.Core.List.{List, ◌++◌}
use Prim.Native.Nat.{ℕ, ◌<◌, ◌≤◌}
use native.Mathlib.Omega.{arith}
use lib.IntN.{ℤ}
use lib.ListN.{length, take, drop, length-take}
use lib.Seq.{take_at}
use Rattle.job.specs.Header.{count, Limits}
use Rattle.job.specs.Refused.{Verdict, number_of, row_of, verdict_by}
use Rattle.job.specs.declared.refusals.Refused.{Refused}
use Rattle.job.specs.declared.Header.{Header}
use Rattle.job.proofs.Numbers.{number_positive}
use Rattle.system.specs.Inner.{Numbers}
use Rattle.header.specs.Header.{header_of}
use Rattle.frame.specs.Frame.{FrameRead}
use Rattle.frame.specs.Frame.{frame_numbers, layout_checks, number_checks, frame_checks, frame_refusal, frame_row}
use Rattle.frame.specs.Inner.{checks_verdict, layout_refusal, refused_answer, unpack_answer, unpacked}
use Rattle.frame.specs.Theorems.{PassesLayout}
use Rattle.frame.proofs.Valid.{numbers-counted, numbers_fitting, laid_is}
use Rattle.frame.proofs.Verdicts.{rowless, verdict_before, verdict_after, numbers-small}

-- ---- the verdict on a frame: refused by 1 to 7, or else as 8 and 15 say

pub layout_laid : (s : List ℕ) → layout_refusal s ≡ 0 → PassesLayout s
unfolding layout_refusal
layout_laid s e = (laid_is s).0 e

pub layout_verdict : (s : List ℕ) → 0 < layout_refusal s
    → record { refusal = layout_refusal s; row = 0 } ≡ checks_verdict (frame_checks s) (header_of s) (frame_numbers s)
unfolding layout_refusal frame_checks rowless
layout_verdict s z = verdict_before (header_of s) (frame_numbers s) (layout_checks s) (number_checks (header_of s) (frame_numbers s)) tt refl z

pub rows_verdict : (s : List ℕ) → layout_refusal s ≡ 0
    → checks_verdict (frame_checks s) (header_of s) (frame_numbers s) ≡ checks_verdict (number_checks (header_of s) (frame_numbers s)) (header_of s) (frame_numbers s)
unfolding layout_refusal frame_checks
rows_verdict s e = verdict_after (header_of s) (frame_numbers s) (layout_checks s) (number_checks (header_of s) (frame_numbers s)) tt e

-- a refusal by d is that of the frame
module _ (s : List ℕ) {d : Verdict} (e : d ≡ checks_verdict (frame_checks s) (header_of s) (frame_numbers s)) where
  pub verdict_refusal : d.refusal ≡ frame_refusal s
  unfolding checks_verdict
  verdict_refusal = ap (λ (d : Verdict). d.refusal) e

  pub verdict_row : d.row ≡ frame_row (frame_refusal s) (header_of s) (frame_numbers s)
  unfolding checks_verdict
  verdict_row = ap (λ (d : Verdict). d.row) e

-- ---- after `unpack`

-- it left v, nothing was refused, h is the header, and n is the count of the numbers
pub record Unpacked (s : List ℕ) (h : Header) (v : List ℤ) (n : ℕ) : Type 0 where
  pub accepted : layout_refusal s ≡ 0
  pub header : h ≡ header_of s
  pub counted : n ≡ count (header_of s)
  pub numbers : take n v ≡ frame_numbers s

-- what `unpack` ensures, of a refusal by e
pub unpack_refusal : (s : List ℕ) (e : Refused) → refused_answer (number_of e) (row_of e) ≡ unpack_answer s
    → verdict_by e ≡ checks_verdict (frame_checks s) (header_of s) (frame_numbers s)
unfolding unpack_answer
unpack_refusal s e u =
    let c : number_of e ≡ layout_refusal s = ap (λ (a : FrameRead). a.refusal) u in
    let r : row_of e ≡ 0 = ap (λ (a : FrameRead). a.row) u in
    rw (c, r) (layout_verdict s (rw c at (number_positive e)))

-- and of the header h
module _ (s : List ℕ) (z : List ℤ) {h : Header} {v : List ℤ} (u : (record { refusal = 0; row = 0; header = h } ≡ unpack_answer s) × (v ≡ unpacked s z)) where
  no_refusal : layout_refusal s ≡ 0
  unfolding unpack_answer
  no_refusal = sym (ap (λ (a : FrameRead). a.refusal) u.0)

  pub unpack_header : h ≡ header_of s
  unfolding unpack_answer
  unpack_header = ap (λ (a : FrameRead). a.header) u.0 ∙ rw no_refusal refl

  pub unpack_limits : Limits h
  unpack_limits = rw (← unpack_header) at (layout_laid s no_refusal).limits

  pub unpack_gives : {n : ℕ} → n ≡ count h → Unpacked s h v n
  unfolding unpacked
  unpack_gives {n} k =
      let e : n ≡ count (header_of s) = k ∙ ap count unpack_header in
      let l : length (frame_numbers s) ≡ n = numbers-counted s ∙ sym e in
      let w : v ≡ frame_numbers s ++ drop (count (header_of s)) z = u.1 ∙ rw no_refusal in
      record { accepted = no_refusal; header = unpack_header; counted = e; numbers = rw w (take_at (frame_numbers s) (drop (count (header_of s)) z) n l) }

-- and then the numbers are a part of v, from which the system can be set up
module _ {s : List ℕ} {h : Header} {v : List ℤ} {n : ℕ} (u : Unpacked s h v n) where
  pub part_long : n ≡ length (take n v)
  part_long = u.counted ∙ sym (numbers-counted s) ∙ ap length (sym u.numbers)

  pub part_within : n ≤ length v
  part_within = omega (arith, part_long, length-take n v)

  pub part_small : Limits h × Numbers (count h) (take n v)
  part_small =
      let l = (layout_laid s u.accepted).limits in
      let m : Numbers (count (header_of s)) (frame_numbers s) = numbers-small l (numbers-counted s) (numbers_fitting s) in
      (rw (← u.header) at l, rw (u.numbers, u.header) m)

  -- and the verdict on the system is that on the frame
  pub part_verdict : {d : Verdict} → d ≡ checks_verdict (number_checks h (take n v)) h (take n v)
      → d ≡ checks_verdict (frame_checks s) (header_of s) (frame_numbers s)
  part_verdict e = (rw (u.header, u.numbers) at e) ∙ sym (rows_verdict s u.accepted)
