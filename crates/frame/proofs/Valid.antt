-- What the checks of frames come to, as facts: `PassesLayout` is what 1 to 7 leave, `ValidJob` what the
-- writer's checks but the last leave, `AcceptedFrame` both.
use mathlib.Core.Path.{◌≡◌, refl}
use mathlib.Core.Bool.{Bool, true, false, not, ◌&&◌}
use mathlib.Core.List.{List, [], ◌∷◌, ◌++◌}
use mathlib.Core.Logic.{◌↔◌}
use Prim.Native.Nat.{ℕ, zero, suc, ◌*◌, ◌<◌, ◌≤◌}
use native.Mathlib.Nat.{mul-le-mul}
use native.Mathlib.Omega.{arith}
use borrow.Author.Tests.{le-ltb}
use lib.Dec.{T, ltb, nltb→le}
use lib.IntN.{ℤ, pos}
use lib.ListN.{length, get_or}
use Rattle.integers.specs.Sum.{weight}
use Rattle.bitfields.specs.Layout.{fill, field}
use Rattle.bitfields.specs.Twos.{Fits, AllFit, fitsb}
use Rattle.bitfields.proofs.Twos.{fits-fitsb, fitsb_true, length-numbers, numbers-all_fit}
use Rattle.job.specs.Header.{digit_bits, number_bits, count, header_checks, read_checks, Limits}
use Rattle.job.specs.Refusal.{Check, first_refusal, None, none, also}
use Rattle.job.proofs.Refusal.{accepted_exactly, equal, not_unequal}
use Rattle.header.proofs.Header.{header_is}
use Rattle.job.specs.Kind.{kind_of}
use Rattle.job.proofs.Limits.{limits_exactly, count_most}
use Rattle.job.specs.Rules.{last_step, scaled_steps_out_of_range}
use Rattle.system.specs.Rows.{light_enough, heavy_row}
use Rattle.system.specs.System.{matrix_of}
use Rattle.scale.specs.Scale.{job_scale}
use Rattle.job.specs.declared.Header.{Header}
use Rattle.system.proofs.Searches.{none-heavy}
use Rattle.header.specs.Header.{header_bits, header_of}
use Rattle.frame.specs.Theorems.{PassesLayout, ValidJob, AcceptedFrame, FrameAccepted, FrameReaderAccepted, FrameWriterAccepted}
use Rattle.frame.specs.Frame.{frame_bits, frame_length, frame_numbers, layout_checks, number_checks, frame_checks, frame_refusal, number_list_too_short, frame_reader_checks, wrong_count, all_fit, number_too_wide, frame_buffer_too_short, frame_writer_checks}

-- a frame has at most 11,448 bits, in 1,431 bytes
pub frame_bits-most : {h : Header} → Limits h → frame_bits h ≤ 11448
frame_bits-most {h} l =
    let w : number_bits h ≤ 42 = omega (arith, l.fraction_most) in
    omega (arith, mul-le-mul w (count_most (kind_of h.kind) h.n l.order_most))

-- ---- tests as facts

both_true : (a b : Bool) → T (a && b) → (a ≡ true) × T b
both_true true b t = (refl, t)
both_true false b t = absurd t

pub all_fit_true : (w : ℕ) (v : List ℤ) → T (all_fit w v) → AllFit w v
unfolding all_fit
all_fit_true w v t = record { each_fits = found v t }
  where
    found : (v : List ℤ) → T (all_fit w v) → (i : ℕ) → i < length v → Fits w (get_or v i (pos 0))
    found [] t i l = absurd (omega arith)
    found (z ∷ v) t zero l = fitsb_true w z (both_true (fitsb w z) (all_fit w v) t).0
    found (z ∷ v) t (suc i) l = found v (both_true (fitsb w z) (all_fit w v) t).1 i (omega arith)

fit-all_fit : (w : ℕ) (v : List ℤ) → AllFit w v → T (all_fit w v)
unfolding all_fit
fit-all_fit w v h = found v h.each_fits
  where
    found : (v : List ℤ) → ((i : ℕ) → i < length v → Fits w (get_or v i (pos 0))) → T (all_fit w v)
    found [] h = tt
    found (z ∷ v) h = rw (fits-fitsb (h 0 (omega arith))) (found v (λ i l. h (suc i) (omega arith)))

not-not : (b : Bool) → T (not (not b)) → T b
not-not true t = tt
not-not false t = absurd t

is_true : (b : Bool) → T b → T (not (not b))
is_true true t = tt
is_true false t = absurd t

not_below : (a b : ℕ) → b ≤ a → T (not (ltb a b))
not_below a b h = rw (le-ltb a b h) tt

-- ---- checks one after the other

none-append : {xs ys : List Check} → None xs → None ys → None (xs ++ ys)
none-append none g = g
none-append (also t f) g = also t (none-append f g)

none_split : (xs ys : List Check) → None (xs ++ ys) → None xs × None ys
none_split [] ys f = (none, f)
none_split ((k, b) ∷ xs) ys (also t f) = let g = none_split xs ys f in (also t g.0, g.1)

-- ---- 1 to 7

none_laid : (s : List ℕ) → None (layout_checks s) → PassesLayout s
none_laid s (also t₁ (also t₂ (also t₃ (also t₄ (also t₅ (also t₆ (also t₇ none))))))) =
    let h = header_of s in
    record {
      limits = (header_is s).0 ((accepted_exactly (read_checks h) tt).1 (also t₂ (also t₃ (also t₄ (also t₅ none)))));
      size = equal (length s) (frame_length h) t₆;
      zeros = equal (field s (frame_bits h) (fill (frame_bits h))) 0 t₇;
    }

laid_none : (s : List ℕ) → PassesLayout s → None (layout_checks s)
laid_none s a =
    let h = header_of s in
    also (not_below (length s) 3 (omega (arith, a.size)))
    (none-append ((accepted_exactly (read_checks h) tt).0 ((header_is s).1 a.limits))
    (also (not_unequal (length s) (frame_length h) a.size) (also (not_unequal (field s (frame_bits h) (fill (frame_bits h))) 0 a.zeros) none)))

pub laid_is : (s : List ℕ) → (first_refusal (layout_checks s) ≡ 0) ↔ PassesLayout s
laid_is s =
    ((λ e. none_laid s ((accepted_exactly (layout_checks s) tt).0 e)), (λ a. (accepted_exactly (layout_checks s) tt).1 (laid_none s a)))

-- ---- 8 and 15

module _ (h : Header) (v : List ℤ) where
  none-light : T (not (ltb 0 (heavy_row h (matrix_of h v)))) → (i : ℕ) → i < h.n → light_enough h (weight h.n (matrix_of h v i)) ≡ true
  none-light t = (none-heavy h (matrix_of h v)).0 (none_found (heavy_row h (matrix_of h v)) (nltb→le 0 (heavy_row h (matrix_of h v)) t))
    where
      none_found : (a : ℕ) → a ≤ 0 → a ≡ 0
      none_found a l = omega arith

  none-steps : T (not (scaled_steps_out_of_range h (job_scale h v))) → last_step h (job_scale h v) * digit_bits h.code ≤ 60
  none-steps t = nltb→le 60 (last_step h (job_scale h v) * digit_bits h.code) t

  valid-none : ValidJob h v → None (number_checks h v)
  valid-none a =
      also (not_below 0 (heavy_row h (matrix_of h v)) (omega (arith, (none-heavy h (matrix_of h v)).1 a.light)))
      (also (not_below 60 (last_step h (job_scale h v) * digit_bits h.code) a.steps) none)

-- ---- a frame: 1 to 8 and 15

-- as many numbers as its header demands, each of which fits
pub numbers-counted : (s : List ℕ) → length (frame_numbers s) ≡ count (header_of s)
numbers-counted s = length-numbers s header_bits (number_bits (header_of s)) (count (header_of s))

pub numbers_fitting : (s : List ℕ) → AllFit (number_bits (header_of s)) (frame_numbers s)
numbers_fitting s = numbers-all_fit s header_bits (number_bits (header_of s)) (count (header_of s)) (omega arith)

none-accepted : (s : List ℕ) → None (frame_checks s) → AcceptedFrame s
unfolding frame_checks
none-accepted s f = by_parts (none_split (layout_checks s) (number_checks (header_of s) (frame_numbers s)) f)
  where
    by_parts : None (layout_checks s) × None (number_checks (header_of s) (frame_numbers s)) → AcceptedFrame s
    by_parts (l, also t₈ (also t₁₅ none)) =
        record {
          layout = none_laid s l;
          valid = record {
            limits = (none_laid s l).limits;
            counted = numbers-counted s;
            fit = numbers_fitting s;
            light = none-light (header_of s) (frame_numbers s) t₈;
            steps = none-steps (header_of s) (frame_numbers s) t₁₅;
          };
        }

pub accepted-frame : FrameAccepted
unfolding frame_checks
accepted-frame s = (
  (λ e. none-accepted s ((accepted_exactly (frame_checks s) tt).0 e)),
  (λ a. (accepted_exactly (frame_checks s) tt).1 (none-append (laid_none s a.layout) (valid-none (header_of s) (frame_numbers s) a.valid))),
)

-- ---- the reader: then 23

pub frame_reader_accepted : FrameReaderAccepted
unfolding frame_reader_checks frame_checks
frame_reader_accepted s room = (
  (λ e. by_parts (none_split (frame_checks s) ((23, number_list_too_short s room) ∷ []) ((accepted_exactly (frame_reader_checks s room) tt).0 e))),
  (λ a. (accepted_exactly (frame_reader_checks s room) tt).1
      (none-append ((accepted_exactly (frame_checks s) tt).0 a.0) (also (not_below room (count (header_of s)) a.1) none))),
)
  where
    by_parts : None (frame_checks s) × None ((23, number_list_too_short s room) ∷ []) → (frame_refusal s ≡ 0) × (count (header_of s) ≤ room)
    by_parts (f, also t none) = ((accepted_exactly (frame_checks s) tt).1 f, nltb→le room (count (header_of s)) t)

-- ---- the writer: 2, 14, 3, 4, 5, then 12, 13, 8, 15, then 23

none-taken : (h : Header) (v : List ℤ) (room : ℕ) → None (frame_writer_checks h v room) → ValidJob h v × (frame_length h ≤ room)
unfolding frame_writer_checks
none-taken h v room f =
    by_parts (none_split (header_checks h) (((12, wrong_count h v) ∷ (13, number_too_wide h v) ∷ number_checks h v) ++ ((23, frame_buffer_too_short h room) ∷ [])) f)
  where
    by_parts : None (header_checks h) × None (((12, wrong_count h v) ∷ (13, number_too_wide h v) ∷ number_checks h v) ++ ((23, frame_buffer_too_short h room) ∷ []))
        → ValidJob h v × (frame_length h ≤ room)
    by_parts (header, also t₁₂ (also t₁₃ (also t₈ (also t₁₅ (also t₂₃ none))))) = (
      record {
        limits = (limits_exactly h).0 ((accepted_exactly (header_checks h) tt).1 header);
        counted = equal (length v) (count h) t₁₂;
        fit = all_fit_true (number_bits h) v (not-not (all_fit (number_bits h) v) t₁₃);
        light = none-light h v t₈;
        steps = none-steps h v t₁₅;
      },
      nltb→le room (frame_length h) t₂₃,
    )

taken_none : (h : Header) (v : List ℤ) (room : ℕ) → ValidJob h v → frame_length h ≤ room → None (frame_writer_checks h v room)
unfolding frame_writer_checks
taken_none h v room a r =
    none-append ((accepted_exactly (header_checks h) tt).0 ((limits_exactly h).1 a.limits))
    (none-append
    (also (not_unequal (length v) (count h) a.counted)
    (also (is_true (all_fit (number_bits h) v) (fit-all_fit (number_bits h) v a.fit))
    (valid-none h v a)))
    (also (not_below room (frame_length h) r) none))

pub frame_writer_accepted : FrameWriterAccepted
unfolding frame_writer_checks
frame_writer_accepted h v room = (
  (λ e. none-taken h v room ((accepted_exactly (frame_writer_checks h v room) tt).0 e)),
  (λ a. (accepted_exactly (frame_writer_checks h v room) tt).1 (taken_none h v room a.0 a.1)),
)
