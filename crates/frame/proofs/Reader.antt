-- The laws of the frame reader's code of `src/lib.rt` after `unpack`, over its variables.
use mathlib.Core.Path.{◌≡◌, sym, ap, ap₂, ◌∙◌}
use mathlib.Core.List.{List, [], ◌∷◌, ◌++◌}
use Prim.Native.Nat.{ℕ, ◌<◌, ◌≤◌}
use native.Mathlib.Omega.{arith}
use borrow.Author.Tests.{le-ltb, lt-ltb, ne_eqb}
use lib.IntN.{ℤ}
use lib.ListN.{length, take, drop}
use Rattle.job.specs.Header.{count}
use Rattle.job.specs.Refused.{Verdict, number_of, row_of, verdict_by, without_row}
use Rattle.job.specs.declared.refusals.Refused.{Refused}
use Rattle.job.specs.declared.refusals.Refused.TheVariants.{TooLittleRoom}
use Rattle.job.specs.declared.Header.{Header}
use Rattle.job.proofs.Numbers.{number_positive}
use Rattle.header.specs.Header.{header_of}
use Rattle.frame.specs.Frame.{frame_numbers, number_checks, frame_checks, frame_row, number_list_too_short, frame_reader_checks, frame_reader_refusal, frame_reader_answer, frame_reader_list}
use Rattle.frame.specs.Inner.{checks_verdict, refused_answer, unpack_answer}
use Rattle.frame.proofs.Verdicts.{verdict_first, verdict_after}
use Rattle.frame.proofs.ReadJob.{Unpacked, unpack_refusal, part_verdict}

-- ---- the answer and the list, from the verdict of all checks

module _ (s : List ℕ) (out : List ℤ) where
  answer-refused : (e : Refused) → verdict_by e ≡ checks_verdict (frame_reader_checks s (length out)) (header_of s) (frame_numbers s)
      → (refused_answer (number_of e) (row_of e) ≡ frame_reader_answer s (length out)) × (out ≡ frame_reader_list s out)
  unfolding frame_reader_answer frame_reader_list checks_verdict
  answer-refused e f =
      let c : number_of e ≡ frame_reader_refusal s (length out) = ap (λ (d : Verdict). d.refusal) f in
      let w : row_of e ≡ frame_row (frame_reader_refusal s (length out)) (header_of s) (frame_numbers s) = ap (λ (d : Verdict). d.row) f in
      let n = ne_eqb (frame_reader_refusal s (length out)) 0 (λ y. omega (arith, number_positive e)) in
      (rw (n, c, w), rw n)

  answer-taken : {h : Header} {p : List ℤ} → without_row 0 ≡ checks_verdict (frame_reader_checks s (length out)) (header_of s) (frame_numbers s)
      → h ≡ header_of s → p ≡ frame_numbers s ++ drop (count (header_of s)) out
      → (record { refusal = 0; row = 0; header = h } ≡ frame_reader_answer s (length out)) × (p ≡ frame_reader_list s out)
  unfolding frame_reader_answer frame_reader_list checks_verdict
  answer-taken e g f =
      let c : frame_reader_refusal s (length out) ≡ 0 = sym (ap (λ (d : Verdict). d.refusal) e) in
      (rw (c, g), rw c f)

  -- from the verdict on the frame: refused by e, or then 23
  frame_decides : (e : Refused) → verdict_by e ≡ checks_verdict (frame_checks s) (header_of s) (frame_numbers s)
      → (refused_answer (number_of e) (row_of e) ≡ frame_reader_answer s (length out)) × (out ≡ frame_reader_list s out)
  unfolding frame_reader_checks
  frame_decides e f =
      answer-refused e (verdict_first (header_of s) (frame_numbers s) (frame_checks s) ((23, number_list_too_short s (length out)) ∷ []) f (number_positive e))

  past_frame : without_row 0 ≡ checks_verdict (frame_checks s) (header_of s) (frame_numbers s)
      → checks_verdict (frame_reader_checks s (length out)) (header_of s) (frame_numbers s)
      ≡ checks_verdict ((23, number_list_too_short s (length out)) ∷ []) (header_of s) (frame_numbers s)
  unfolding frame_reader_checks frame_checks checks_verdict
  past_frame e =
      verdict_after (header_of s) (frame_numbers s) (frame_checks s) ((23, number_list_too_short s (length out)) ∷ []) tt
      (sym (ap (λ (d : Verdict). d.refusal) e))

  pub layout_decides : (e : Refused) → refused_answer (number_of e) (row_of e) ≡ unpack_answer s
      → (refused_answer (number_of e) (row_of e) ≡ frame_reader_answer s (length out)) × (out ≡ frame_reader_list s out)
  layout_decides e u = frame_decides e (unpack_refusal s e u)

-- ---- after `check_job`

module _ {s : List ℕ} {h : Header} {v : List ℤ} {n : ℕ} (u : Unpacked s h v n) (out : List ℤ) where
  pub frame_refuses : (e : Refused) → verdict_by e ≡ checks_verdict (number_checks h (take n v)) h (take n v)
      → (refused_answer (number_of e) (row_of e) ≡ frame_reader_answer s (length out)) × (out ≡ frame_reader_list s out)
  frame_refuses e k = frame_decides s out e (part_verdict u k)

  -- the list has n words or more, or not
  module _ (k : without_row 0 ≡ checks_verdict (number_checks h (take n v)) h (take n v)) where
    pub list_decides : length out < n → (refused_answer 23 0 ≡ frame_reader_answer s (length out)) × (out ≡ frame_reader_list s out)
    unfolding checks_verdict
    list_decides l =
        answer-refused s out TooLittleRoom (rw (lt-ltb (length out) (count (header_of s)) (rw u.counted at l)) at (sym (past_frame s out (part_verdict u k))))

    pub none_decides : {p : List ℤ} → p ≡ take n v → n ≤ length out
        → (record { refusal = 0; row = 0; header = h } ≡ frame_reader_answer s (length out)) × (p ++ drop n out ≡ frame_reader_list s out)
    unfolding checks_verdict
    none_decides f l =
        answer-taken s out
        (rw (le-ltb (length out) (count (header_of s)) (rw u.counted at l)) at (sym (past_frame s out (part_verdict u k))))
        u.header
        (ap₂ (λ (w : List ℤ) (m : ℕ). w ++ drop m out) (f ∙ u.numbers) u.counted)
