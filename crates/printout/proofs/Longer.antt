-- Inputs longer than every frame: the bytes past the first 1,432 change nothing.
use mathlib.Core.Path.{◌≡◌, refl, sym, ap, ◌∙◌}
use mathlib.Core.Bool.{Bool, true, false, not, cond}
use mathlib.Core.List.{List}
use mathlib.Core.Logic.{◌⊎◌, inl, inr}
use Prim.Native.Nat.{ℕ, ◌<◌, ◌≤◌}
use native.Mathlib.Omega.{arith}
use borrow.Author.Tests.{le-ltb, ne_eqb}
use lib.Dec.{eqb}
use lib.ListN.{length, take}
use lib.Seq.{length-take-le, take_all}
use Rattle.integers.proofs.Maximum.{le_or_lt}
use Rattle.bitfields.specs.Layout.{Bytes}
use Rattle.bitfields.proofs.Reading.{field_part}
use Rattle.job.specs.Header.{frame_code, unknown_kind, digit_out_of_range, fraction_out_of_range, steps_out_of_range, read_checks}
use Rattle.job.specs.Refusal.{first_refusal}
use Rattle.job.specs.declared.Header.{Header}
use Rattle.header.specs.Header.{header_of}
use Rattle.frame.specs.Frame.{frame_length, frame_checks, frame_refusal}
use Rattle.frame.proofs.Theorems.{frame_length-most}
use Rattle.header.proofs.Header.{header_is}
use Rattle.printout.specs.Printout.{refused_text, frame_text, CutText}

-- ---- the refusals 2 to 5, and 6 where none of them holds

abbrev nested : (a b c d : Bool) (x : ℕ) → ℕ
nested a b c d x = cond a 2 (cond b 3 (cond c 4 (cond d 5 x)))

sixth : (a b c d e : Bool) (x : ℕ) → (nested a b c d 0 ≡ 0 → e ≡ true) → nested a b c d (cond e 6 x) ≡ nested a b c d 6
sixth true b c d e x h = refl
sixth false true c d e x h = refl
sixth false false true d e x h = refl
sixth false false false true e x h = refl
sixth false false false false e x h = rw (h refl)

-- none of them is 0 or has a row
no_row : (a b c d : Bool) (job : List ℕ) (row : ℕ) → cond (eqb (nested a b c d 6) 0) job (refused_text (nested a b c d 6) row) ≡ refused_text (nested a b c d 6) 0
no_row true b c d job row = refl
no_row false true c d job row = refl
no_row false false true d job row = refl
no_row false false false true job row = refl
no_row false false false false job row = refl

abbrev long_refusal : Header → ℕ
long_refusal h = nested (unknown_kind (frame_code h.code) h) (digit_out_of_range h) (fraction_out_of_range h) (steps_out_of_range h) 6

-- ---- an input of more than 1,431 bytes

module _ (s : List ℕ) (long : 1431 < length s) where
  wrong : first_refusal (read_checks (header_of s)) ≡ 0 → not (eqb (length s) (frame_length (header_of s))) ≡ true
  wrong e = rw (ne_eqb (length s) (frame_length (header_of s)) (λ q. omega (arith, frame_length-most ((header_is s).0 e))))

  long_refused : frame_refusal s ≡ long_refusal (header_of s)
  unfolding frame_checks
  long_refused =
      rw (le-ltb (length s) 3 (omega arith))
      (sixth (unknown_kind (frame_code (header_of s).code) (header_of s)) (digit_out_of_range (header_of s)) (fraction_out_of_range (header_of s)) (steps_out_of_range (header_of s)) _ _ wrong)

  long_text : frame_text s ≡ refused_text (long_refusal (header_of s)) 0
  unfolding frame_text
  long_text =
      rw long_refused
      (no_row (unknown_kind (frame_code (header_of s).code) (header_of s)) (digit_out_of_range (header_of s)) (fraction_out_of_range (header_of s)) (steps_out_of_range (header_of s)) _ _)

-- ---- its first k bytes have the same header

same_header : (s : List ℕ) (k : ℕ) → Bytes s → 3 ≤ k → k ≤ length s → header_of (take k s) ≡ header_of s
same_header s k b l h =
    rw (
      field_part 0 k 0 2 b (omega arith) (omega arith),
      field_part 0 k 2 2 b (omega arith) (omega arith),
      field_part 0 k 4 4 b (omega arith) (omega arith),
      field_part 0 k 8 6 b (omega arith) (omega arith),
      field_part 0 k 14 4 b (omega arith) (omega arith),
      field_part 0 k 18 6 b (omega arith) (omega arith),
    )

pub cut_text : CutText
cut_text s k b l = by_case (le_or_lt (length s) k)
  where
    by_case : (length s ≤ k) ⊎ (k < length s) → frame_text (take k s) ≡ frame_text s
    by_case (inl h) = rw (take_all k s h)
    by_case (inr h) =
        let e : length (take k s) ≡ k = length-take-le k s (omega arith) in
        long_text (take k s) (omega arith) ∙ ap (λ (x : Header). refused_text (long_refusal x) 0) (same_header s k b (omega arith) (omega arith)) ∙ sym (long_text s (omega arith))
