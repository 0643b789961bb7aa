-- The laws of the code of `src/lib.rt` for refusals 1 to 7 and for unpacking, over its variables.
use mathlib.Core.Path.{◌≡◌, sym, ap, ◌∙◌}
use mathlib.Core.Bool.{Bool, true, false, not}
use mathlib.Core.List.{List, [], ◌∷◌, ◌++◌}
use Prim.Native.Nat.{ℕ, ◌+◌, ◌*◌, ◌<◌, ◌≤◌}
use native.Mathlib.Omega.{arith}
use borrow.Author.Tests.{le-ltb, lt-ltb, eq-eqb, ne_eqb}
use lib.Dec.{eqb}
use lib.IntN.{ℤ}
use lib.ListN.{length, drop}
use Rattle.bitfields.specs.Layout.{field, fill}
use Rattle.bitfields.specs.Twos.{numbers}
use Rattle.job.specs.Header.{count, read_checks, Limits}
use Rattle.job.specs.Kind.{kind_of, most_numbers}
use Rattle.job.proofs.Limits.{count_most}
use Rattle.job.specs.Refusal.{first_refusal}
use Rattle.job.proofs.Refusal.{refused-before, accepted-before}
use Rattle.job.specs.Refused.{Verdict, number_of, row_of, verdict_by, without_row}
use Rattle.job.specs.declared.refusals.Refused.{Refused}
use Rattle.job.proofs.Numbers.{number_positive}
use Rattle.frame.proofs.Verdicts.{rowless, error_rowless}
use Rattle.job.specs.declared.Header.{Header}
use Rattle.header.specs.Header.{header_bits, header_of}
use Rattle.header.proofs.Header.{header_is}
use Rattle.frame.specs.Frame.{frame_bits, frame_length, frame_wrong_length, frame_fill_bit_set}
use Rattle.frame.proofs.Valid.{frame_bits-most}
use Rattle.frame.specs.Inner.{layout_refusal, refused_answer, unpack_answer, unpacked}
use Rattle.frame.proofs.ReadJob.{layout_laid}

-- ---- refusals 1 to 7

pub short_decides : (s : List ℕ) → length s < 3 → without_row 1 ≡ without_row (layout_refusal s)
unfolding layout_refusal
short_decides s l = rw (lt-ltb (length s) 3 l)

-- the header h of s was read, and c is what it is refused by
pub record HeaderRead (s : List ℕ) (h : Header) (c : ℕ) : Type 0 where
  pub long : 3 ≤ length s
  pub header : h ≡ header_of s
  pub refusal : c ≡ first_refusal (read_checks h)

module _ {s : List ℕ} {h : Header} {c : ℕ} (k : HeaderRead s h c) where
  header_first : 0 < c → c ≡ layout_refusal s
  unfolding layout_refusal
  header_first z =
      rw (le-ltb (length s) 3 k.long)
      (sym (refused-before (read_checks (header_of s)) ((6, frame_wrong_length s) ∷ (7, frame_fill_bit_set s) ∷ []) c z (rw k.header at (sym k.refusal))))

-- by the error e
pub header_decides : {s : List ℕ} {h : Header} (e : Refused) → HeaderRead s h (number_of e) → verdict_by e ≡ without_row (layout_refusal s)
unfolding rowless
header_decides {h = h} e k = error_rowless (read_checks h) e tt k.refusal ∙ ap without_row (sym k.refusal ∙ header_first k (number_positive e))

-- by none
module _ {s : List ℕ} {h : Header} (k : HeaderRead s h 0) where
  pub layout-header-limits : Limits h
  layout-header-limits = rw (← k.header) at ((header_is s).0 (rw k.header at (sym k.refusal)))

  past_header : layout_refusal s ≡ first_refusal ((6, frame_wrong_length s) ∷ (7, frame_fill_bit_set s) ∷ [])
  unfolding layout_refusal
  past_header =
      rw (le-ltb (length s) 3 k.long)
      (accepted-before (read_checks (header_of s)) ((6, frame_wrong_length s) ∷ (7, frame_fill_bit_set s) ∷ []) tt (rw k.header at (sym k.refusal)))

  module _ {b : ℕ} (f : b ≡ frame_length h) where
    pub length_decides : (length s ≡ b → ⊥) → without_row 6 ≡ without_row (layout_refusal s)
    length_decides g = rw (past_header, ne_eqb (length s) (frame_length (header_of s)) (rw (f, k.header) at g))

    module _ {d : ℕ} {t : Bool} (g : length s ≡ b) (u : d ≡ frame_bits h) (w : t ≡ eqb (field s d (fill d)) 0) where
      past_length : layout_refusal s ≡ first_refusal ((7, not t) ∷ [])
      past_length =
          let e : eqb (field s (frame_bits (header_of s)) (fill (frame_bits (header_of s)))) 0 ≡ t = sym (rw (u, k.header) at w) in
          past_header ∙ rw (eq-eqb (length s) (frame_length (header_of s)) (rw (f, k.header) at g), e)

      pub fill_decides : not t ≡ true → without_row 7 ≡ without_row (layout_refusal s)
      fill_decides n = rw (past_length, n)

      pub none_decides : not t ≡ false → without_row 0 ≡ without_row (layout_refusal s)
      none_decides n = rw (past_length, n)

-- ---- unpacking

pub unpack_refused : (s : List ℕ) (v : List ℤ) (e : Refused) → verdict_by e ≡ without_row (layout_refusal s)
    → (refused_answer (number_of e) (row_of e) ≡ unpack_answer s) × (v ≡ unpacked s v)
unfolding unpack_answer unpacked
unpack_refused s v e d =
    let c : number_of e ≡ layout_refusal s = ap (λ (d : Verdict). d.refusal) d in
    let r : row_of e ≡ 0 = ap (λ (d : Verdict). d.row) d in
    let n = ne_eqb (layout_refusal s) 0 (λ y. omega (arith, number_positive e)) in
    (rw (n, c, r), rw n)

pub unpack_long : (s : List ℕ) → without_row 0 ≡ without_row (layout_refusal s) → 3 ≤ length s
unpack_long s d = omega (arith, (layout_laid s (sym (ap (λ (d : Verdict). d.refusal) d))).size)

-- nothing was refused, and then the header h was read
pub record LayoutRead (s : List ℕ) (h : Header) : Type 0 where
  pub accepted : layout_refusal s ≡ 0
  pub header : h ≡ header_of s

pub layout_read : {s : List ℕ} {h : Header} → without_row 0 ≡ without_row (layout_refusal s) → h ≡ header_of s → LayoutRead s h
layout_read d g = record { accepted = sym (ap (λ (d : Verdict). d.refusal) d); header = g }

module _ {s : List ℕ} {h : Header} (k : LayoutRead s h) where
  pub layout-limits : Limits h
  layout-limits = rw (← k.header) at (layout_laid s k.accepted).limits

  module _ {n : ℕ} (e : n ≡ count h) where
    pub unpack_room : (v : List ℤ) → most_numbers ≤ length v
        → (header_bits + (h.f + 2) * n ≤ 8 * length s) × (n ≤ length v) × (0 < h.f + 2) × (h.f + 2 ≤ 48) × (length s ≤ 65536)
    unpack_room v w =
        let l = layout-limits in
        let size : length s ≡ frame_length h = (layout_laid s k.accepted).size ∙ ap frame_length (sym k.header) in
        rw e
        (omega (arith, size), omega (arith, w, count_most (kind_of h.kind) h.n l.order_most), omega arith, omega (arith, l.fraction_most), omega (arith, size, frame_bits-most l))

    pub unpack_accepted : (v : List ℤ) {out : List ℤ} → out ≡ numbers s header_bits (h.f + 2) n ++ drop n v
        → (record { refusal = 0; row = 0; header = h } ≡ unpack_answer s) × (out ≡ unpacked s v)
    unfolding unpack_answer unpacked
    unpack_accepted v o = (rw (k.accepted, k.header), rw k.accepted (rw (e, k.header) at o))
