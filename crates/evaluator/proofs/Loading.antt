-- What load answers, over the locals of its code: `h` is the header that `unpack` gave, `v` the array with the
-- numbers, `g` and `z` the system, and `c` its scale.
use mathlib.Core.Path.{◌≡◌, sym, ◌∙◌}
use mathlib.Core.Bool.{true}
use mathlib.Core.List.{List}
use Prim.Native.Nat.{ℕ, ◌≤◌}
use native.Mathlib.Omega.{arith}
use borrow.Author.Tests.{ne_eqb}
use lib.IntN.{ℤ, pos}
use lib.ListN.{replicate, take}
use Rattle.integers.specs.Flat.{at, entry, flat_vector, flat_matrix}
use Rattle.job.specs.Header.{Limits}
use Rattle.job.specs.Rules.{scaled_steps_out_of_range}
use Rattle.job.specs.Refused.{Verdict, number_of, row_of, verdict_by, without_row}
use Rattle.job.specs.declared.refusals.Refused.{Refused}
use Rattle.job.specs.declared.Header.{Header}
use Rattle.job.proofs.Numbers.{number_positive}
use Rattle.system.specs.Rows.{heavy_row}
use Rattle.system.specs.System.{matrix_of, right_side_of}
use Rattle.scale.specs.Inner.{SmallSides}
use Rattle.scale.specs.Scale.{scale}
use Rattle.scale.proofs.Smallest.{sides_small}
use Rattle.header.specs.Header.{header_of}
use Rattle.frame.specs.Frame.{frame_numbers, frame_checks, frame_refusal}
use Rattle.frame.specs.Inner.{checks_verdict, numbers_verdict, refused_answer, unpack_answer}
use Rattle.frame.proofs.ReadJob.{Unpacked, verdict_refusal, verdict_row, unpack_refusal, part_small, part_verdict}
use Rattle.frame.proofs.Verdicts.{scale_found, system_decides}
use Rattle.state.specs.State.{idle_state, fresh}
use Rattle.evaluator.specs.Evaluator.{loaded}

-- refused by e, from the verdict on the frame
refuses : (s : List ℕ) (e : Refused) → verdict_by e ≡ checks_verdict (frame_checks s) (header_of s) (frame_numbers s)
    → record { refusal = number_of e; row = row_of e; state = idle_state } ≡ loaded s
unfolding loaded
refuses s e f = rw (verdict_refusal s f, verdict_row s f, ne_eqb (frame_refusal s) 0 (λ z. omega (arith, number_positive e, verdict_refusal s f)))

-- refused by 1 to 7
pub load_short : (s : List ℕ) (e : Refused) → refused_answer (number_of e) (row_of e) ≡ unpack_answer s
    → record { refusal = number_of e; row = row_of e; state = idle_state } ≡ loaded s
load_short s e u = refuses s e (unpack_refusal s e u)

-- the right-hand sides are small enough for their scale
pub load_scales : {s : List ℕ} {h : Header} {v : List ℤ} {n : ℕ} → Unpacked s h v n → {z : List ℤ} → z ≡ flat_vector h.n (right_side_of h (take n v))
    → Limits h × SmallSides h.n z
load_scales u ez = let p = part_small u in (p.0, rw ez (sides_small p.0 p.1))

-- refused by 8 or 15, or loaded
module _ {s : List ℕ} {h : Header} {v : List ℤ} {n : ℕ} (u : Unpacked s h v n) {g z : List ℤ} (eg : g ≡ flat_matrix h.n (matrix_of h (take n v)))
    (ez : z ≡ flat_vector h.n (right_side_of h (take n v))) {c : ℕ} (ec : c ≡ scale h (at z)) where
  order : h.n ≤ 16
  order = (part_small u).0.order_most

  frame_verdict : {d : Verdict} → d ≡ numbers_verdict (heavy_row h (entry g)) (scaled_steps_out_of_range h c)
      → d ≡ checks_verdict (frame_checks s) (header_of s) (frame_numbers s)
  frame_verdict f = part_verdict u (system_decides h (take n v) order eg ez ec f)

  pub load_refuses : (e : Refused) → verdict_by e ≡ numbers_verdict (heavy_row h (entry g)) (scaled_steps_out_of_range h c)
      → record { refusal = number_of e; row = row_of e; state = idle_state } ≡ loaded s
  load_refuses e f = refuses s e (frame_verdict f)

  fresh-made : record { busy = true; header = h; scale = c; k = 0; g = g; z = z; digits = replicate 960 (pos 0) } ≡ fresh (header_of s) (frame_numbers s)
  unfolding fresh
  fresh-made = rw (ec ∙ scale_found h (take n v) order eg ez, eg, ez, u.header, u.numbers)

  pub load_makes : without_row 0 ≡ numbers_verdict (heavy_row h (entry g)) (scaled_steps_out_of_range h c)
      → record { refusal = 0; row = 0; state = record { busy = true; header = h; scale = c; k = 0; g = g; z = z; digits = replicate 960 (pos 0) } } ≡ loaded s
  unfolding loaded
  load_makes f = let c : frame_refusal s ≡ 0 = sym (verdict_refusal s (frame_verdict f)) in rw (c, fresh-made)
