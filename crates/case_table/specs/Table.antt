-- Document 01's cases, marked * or not, those of scales (document 02, request 1), one of the estimate
-- (request 3) and those of sums of quotients (request 7) as one table: what the definitions make of each
-- frame, and the exact values of its system (claim C10). Since request 3 the frames of A, B, C and E are
-- refused by 8, and each stands with a frame near it that still loads. The statements are proved in
-- proofs/Holds.antt and proofs/Values.antt, and the crate cases makes the calls and compares.
use mathlib.Core.{Path.◌≡◌, Bool.cond, List.List, List.[], List.◌∷◌, List.Memᴰ, List.map}
use Rattle.std.specs.Prelude.{ℕ, zero, suc, ◌<◌}
use lib.{Dec.eqb, IntN.ℤ, IntN.pos, IntN.neg_ℤ, ListN.length, ListN.replicate}
use Rattle.integers.specs.Flat.{at, list_from}
use Rattle.bitfields.specs.Layout.{write}
use Rattle.frame.specs.Frame.{frame_numbers}
use Rattle.state.specs.{State.all_steps, State.digits_of, declared.State.State}
use Rattle.evaluator.specs.Evaluator.{loaded, advanced, state_reading}
use Rattle.trace.specs.Trace.{record_fields, state_record}
use Rattle.accuracy.specs.Accuracy.{order, ExactValues}

-- ---- what the definitions make of a frame

-- the refusal, 0 where there is none, and the row given with it; the scale; the numbers as sent; after all
-- steps the digits row by row, the readings and the trace
pub record Outcome : Type 0 where
  pub refusal : ℕ
  pub row : ℕ
  pub scale : ℕ
  pub numbers : List ℤ
  pub digits : List (List ℤ)
  pub readings : List ℤ
  pub trace : List ℕ

-- refused: nothing else is handed out
abbrev pub refused_outcome : ℕ → ℕ → Outcome
refused_outcome refusal row = record { refusal = refusal; row = row; scale = 0; numbers = []; digits = []; readings = []; trace = [] }

-- the digits of n rows from row i on, each by steps
unfoldable pub digit_rows : State → ℕ → ℕ → List (List ℤ)
digit_rows s i zero = []
digit_rows s i (suc n) = list_from 1 s.k (λ j. digits_of s.digits j i) ∷ digit_rows s (suc i) n

-- accepted, with the state s at the end
abbrev pub accepted_outcome : List ℕ → State → Outcome
accepted_outcome frame s =
    record {
      refusal = 0;
      row = 0;
      scale = s.scale;
      numbers = frame_numbers frame;
      digits = digit_rows s 0 s.header.n;
      readings = list_from 0 s.header.n (state_reading s);
      trace = write (record_fields (state_record s));
    }

-- a budget of 60 is enough for the steps of every job
unfoldable pub outcome_of : List ℕ → Outcome
outcome_of frame =
    cond (eqb (loaded frame).refusal 0) (accepted_outcome frame (advanced (loaded frame).state all_steps).state)
    (refused_outcome (loaded frame).refusal (loaded frame).row)

-- ---- the table

-- A frame and what it comes to. Where it is accepted it has exact values too: row by row, whole numbers over
-- one denominator.
pub record Case : Type 0 where
  pub frame : List ℕ
  pub outcome : Outcome
  pub denominator : ℕ
  pub values : List ℤ

abbrev pub refused : (frame : List ℕ) (refusal row : ℕ) → Case
refused frame refusal row = record { frame = frame; outcome = refused_outcome refusal row; denominator = 0; values = [] }

abbrev pub accepted : (frame : List ℕ) (scale : ℕ) (numbers readings : List ℤ) (digits : List (List ℤ)) (trace : List ℕ) (denominator : ℕ) (values : List ℤ) → Case
accepted frame scale numbers readings digits trace denominator values =
    record {
      frame = frame;
      outcome = record { refusal = 0; row = 0; scale = scale; numbers = numbers; digits = digits; readings = readings; trace = trace };
      denominator = denominator;
      values = values;
    }

abbrev pub minus : ℕ → ℤ
minus n = neg_ℤ (pos n)

unfoldable pub table : List Case
table =
    refused (1 ∷ 16 ∷ 68 ∷ 16 ∷ 50 ∷ 0 ∷ []) 8 1 ∷  -- A: polynomial, x 4, p 3 and 8, m 4
    -- A with x 3
    accepted (1 ∷ 16 ∷ 68 ∷ 12 ∷ 50 ∷ 0 ∷ []) 0 (pos 3 ∷ pos 3 ∷ pos 8 ∷ []) (pos 9 ∷ pos 16 ∷ [])
    ((pos 0 ∷ pos 1 ∷ pos 0 ∷ pos 1 ∷ minus 1 ∷ []) ∷ (pos 1 ∷ pos 0 ∷ pos 0 ∷ pos 0 ∷ pos 0 ∷ []) ∷ [])
    (1 ∷ 16 ∷ 68 ∷ 20 ∷ 1 ∷ 8 ∷ 0 ∷ 0 ∷ 131 ∷ 224 ∷ []) 32 (pos 9 ∷ pos 16 ∷ []) ∷
    refused (65 ∷ 16 ∷ 69 ∷ 8 ∷ 128 ∷ 4 ∷ []) 8 2 ∷  -- B: rational, x 2, p 8 and 0, q_1 4, m 5
    -- B with q_1 3
    accepted (65 ∷ 16 ∷ 69 ∷ 8 ∷ 128 ∷ 3 ∷ []) 0 (pos 2 ∷ pos 8 ∷ pos 0 ∷ pos 3 ∷ []) (pos 31 ∷ minus 6 ∷ [])
    ((pos 1 ∷ pos 0 ∷ pos 0 ∷ pos 0 ∷ pos 0 ∷ minus 1 ∷ []) ∷ (pos 0 ∷ pos 0 ∷ minus 1 ∷ pos 1 ∷ minus 1 ∷ pos 0 ∷ []) ∷ [])
    (65 ∷ 16 ∷ 69 ∷ 24 ∷ 32 ∷ 0 ∷ 1 ∷ 240 ∷ 4 ∷ 31 ∷ 248 ∷ 0 ∷ []) 131 (pos 64 ∷ minus 12 ∷ []) ∷
    refused (129 ∷ 16 ∷ 4 ∷ 48 ∷ 128 ∷ []) 8 1 ∷  -- C: system, n 1, a 12, b 8, m 4
    -- C with a 13
    accepted (129 ∷ 16 ∷ 4 ∷ 52 ∷ 128 ∷ []) 0 (pos 13 ∷ pos 8 ∷ []) (pos 20 ∷ [])
    ((pos 1 ∷ pos 0 ∷ pos 1 ∷ pos 0 ∷ pos 0 ∷ []) ∷ [])
    (129 ∷ 16 ∷ 4 ∷ 20 ∷ 32 ∷ 8 ∷ 0 ∷ []) 13 (pos 8 ∷ []) ∷
    refused (1 ∷ 16 ∷ 68 ∷ 20 ∷ 50 ∷ 0 ∷ []) 8 1 ∷  -- D: x 5 in A
    refused (1 ∷ 16 ∷ 68 ∷ 16 ∷ 146 ∷ 0 ∷ []) 8 1 ∷  -- E: p_0 9 in A
    -- E: p_0 9 in A with x 3, scale 1
    accepted (1 ∷ 16 ∷ 68 ∷ 12 ∷ 146 ∷ 0 ∷ []) 1 (pos 3 ∷ pos 9 ∷ pos 8 ∷ []) (pos 21 ∷ pos 16 ∷ [])
    ((pos 1 ∷ minus 1 ∷ pos 1 ∷ minus 1 ∷ pos 1 ∷ minus 1 ∷ []) ∷ (pos 1 ∷ minus 1 ∷ pos 0 ∷ pos 0 ∷ pos 0 ∷ pos 0 ∷ []) ∷ [])
    (1 ∷ 16 ∷ 68 ∷ 24 ∷ 33 ∷ 255 ∷ 194 ∷ 15 ∷ 128 ∷ 32 ∷ 248 ∷ 0 ∷ []) 32 (pos 21 ∷ pos 16 ∷ []) ∷
    -- E: p_0 8 in A with x 3
    accepted (1 ∷ 16 ∷ 68 ∷ 12 ∷ 130 ∷ 0 ∷ []) 0 (pos 3 ∷ pos 8 ∷ pos 8 ∷ []) (pos 19 ∷ pos 16 ∷ [])
    ((pos 1 ∷ pos 0 ∷ pos 1 ∷ minus 1 ∷ pos 1 ∷ []) ∷ (pos 1 ∷ pos 0 ∷ pos 0 ∷ pos 0 ∷ pos 0 ∷ []) ∷ [])
    (1 ∷ 16 ∷ 68 ∷ 20 ∷ 33 ∷ 0 ∷ 2 ∷ 15 ∷ 128 ∷ 32 ∷ []) 32 (pos 19 ∷ pos 16 ∷ []) ∷
    -- E: p_0 -8 in A with x 3
    accepted (1 ∷ 16 ∷ 68 ∷ 15 ∷ 130 ∷ 0 ∷ []) 0 (pos 3 ∷ minus 8 ∷ pos 8 ∷ []) (minus 13 ∷ pos 16 ∷ [])
    ((minus 1 ∷ pos 0 ∷ pos 1 ∷ minus 1 ∷ pos 1 ∷ []) ∷ (pos 1 ∷ pos 0 ∷ pos 0 ∷ pos 0 ∷ pos 0 ∷ []) ∷ [])
    (1 ∷ 16 ∷ 68 ∷ 23 ∷ 225 ∷ 0 ∷ 2 ∷ 15 ∷ 128 ∷ 32 ∷ []) 32 (minus 13 ∷ pos 16 ∷ []) ∷
    -- E: p_0 -9 in A with x 3, scale 1
    accepted (1 ∷ 16 ∷ 68 ∷ 15 ∷ 114 ∷ 0 ∷ []) 1 (pos 3 ∷ minus 9 ∷ pos 8 ∷ []) (minus 15 ∷ pos 16 ∷ [])
    ((minus 1 ∷ pos 1 ∷ pos 0 ∷ pos 0 ∷ pos 1 ∷ minus 1 ∷ []) ∷ (pos 1 ∷ minus 1 ∷ pos 0 ∷ pos 0 ∷ pos 0 ∷ pos 0 ∷ []) ∷ [])
    (1 ∷ 16 ∷ 68 ∷ 27 ∷ 225 ∷ 15 ∷ 192 ∷ 0 ∷ 0 ∷ 32 ∷ 248 ∷ 0 ∷ []) 32 (minus 15 ∷ pos 16 ∷ []) ∷
    -- F: r 4, p 2, x 0
    accepted (18 ∷ 16 ∷ 68 ∷ 0 ∷ 50 ∷ 0 ∷ []) 0 (pos 0 ∷ pos 3 ∷ pos 8 ∷ []) (pos 192 ∷ pos 512 ∷ [])
    ((pos 1 ∷ minus 1 ∷ pos 0 ∷ pos 0 ∷ pos 0 ∷ []) ∷ (pos 2 ∷ pos 0 ∷ pos 0 ∷ pos 0 ∷ pos 0 ∷ []) ∷ [])
    (18 ∷ 16 ∷ 68 ∷ 20 ∷ 34 ∷ 248 ∷ 0 ∷ 0 ∷ 0 ∷ 0 ∷ []) 16 (pos 3 ∷ pos 8 ∷ []) ∷
    refused (18 ∷ 16 ∷ 68 ∷ 4 ∷ 50 ∷ 0 ∷ []) 8 1 ∷  -- F: r 4, p 2, x 1
    -- F: r 4, p 3, x 1
    accepted (19 ∷ 16 ∷ 68 ∷ 4 ∷ 50 ∷ 0 ∷ []) 0 (pos 1 ∷ pos 3 ∷ pos 8 ∷ []) (pos 224 ∷ pos 512 ∷ [])
    ((pos 1 ∷ minus 1 ∷ pos 2 ∷ pos 0 ∷ pos 0 ∷ []) ∷ (pos 2 ∷ pos 0 ∷ pos 0 ∷ pos 0 ∷ pos 0 ∷ []) ∷ [])
    (19 ∷ 16 ∷ 68 ∷ 20 ∷ 34 ∷ 248 ∷ 4 ∷ 0 ∷ 0 ∷ 0 ∷ []) 32 (pos 7 ∷ pos 16 ∷ []) ∷
    refused (19 ∷ 16 ∷ 68 ∷ 8 ∷ 50 ∷ 0 ∷ []) 8 1 ∷  -- F: r 4, p 3, x 2
    -- G: polynomial, n 1, x 31, p_0 8
    accepted (1 ∷ 16 ∷ 4 ∷ 124 ∷ 128 ∷ []) 0 (pos 31 ∷ pos 8 ∷ []) (pos 16 ∷ [])
    ((pos 1 ∷ pos 0 ∷ pos 0 ∷ pos 0 ∷ pos 0 ∷ []) ∷ [])
    (1 ∷ 16 ∷ 4 ∷ 20 ∷ 32 ∷ 0 ∷ 0 ∷ []) 2 (pos 1 ∷ []) ∷
    refused (1 ∷ 16 ∷ 68 ∷ 20 ∷ 146 ∷ 0 ∷ []) 8 1 ∷  -- H: x 5 and p_0 9 together
    refused [] 1 0 ∷  -- H: an empty frame
    refused (1 ∷ 16 ∷ 68 ∷ 12 ∷ 50 ∷ 1 ∷ []) 7 0 ∷  -- H: A with x 3 and last byte 01
    refused (1 ∷ 16 ∷ 68 ∷ 12 ∷ 50 ∷ 0 ∷ 0 ∷ []) 6 0 ∷  -- H: A with x 3 and a byte more
    -- the edge of m at r 2: A with x 3 and m 59, which has 60 steps, the most that there are
    accepted (1 ∷ 16 ∷ 123 ∷ 12 ∷ 50 ∷ 0 ∷ []) 0 (pos 3 ∷ pos 3 ∷ pos 8 ∷ []) (pos 324259173170675712 ∷ pos 576460752303423488 ∷ [])
    ((pos 0 ∷ pos 1 ∷ pos 0 ∷ pos 1 ∷ minus 1 ∷ replicate 55 (pos 0)) ∷ (pos 1 ∷ replicate 59 (pos 0)) ∷ [])
    (1 ∷ 16 ∷ 123 ∷ 240 ∷ 1 ∷ 8 ∷ 0 ∷ 0 ∷ 131 ∷ 224 ∷ replicate 69 0) 32 (pos 9 ∷ pos 16 ∷ []) ∷
    refused (1 ∷ 16 ∷ 124 ∷ 12 ∷ 50 ∷ 0 ∷ []) 5 0 ∷  -- the edge of m at r 2: A with x 3 and m 60
    -- the edge of m at r 4: p 2, x 0, m 29
    accepted (18 ∷ 16 ∷ 93 ∷ 0 ∷ 50 ∷ 0 ∷ []) 0 (pos 0 ∷ pos 3 ∷ pos 8 ∷ []) (pos 216172782113783808 ∷ pos 576460752303423488 ∷ [])
    ((pos 1 ∷ minus 1 ∷ replicate 28 (pos 0)) ∷ (pos 2 ∷ replicate 29 (pos 0)) ∷ [])
    (18 ∷ 16 ∷ 93 ∷ 120 ∷ 34 ∷ 248 ∷ replicate 36 0) 16 (pos 3 ∷ pos 8 ∷ []) ∷
    refused (18 ∷ 16 ∷ 94 ∷ 0 ∷ 50 ∷ 0 ∷ []) 5 0 ∷  -- the edge of m at r 4: m 30
    -- the edge of m at r 8: p 7, x 0, m 19
    accepted (39 ∷ 16 ∷ 83 ∷ 0 ∷ 50 ∷ 0 ∷ []) 0 (pos 0 ∷ pos 3 ∷ pos 8 ∷ []) (pos 216172782113783808 ∷ pos 576460752303423488 ∷ [])
    ((pos 2 ∷ minus 4 ∷ replicate 18 (pos 0)) ∷ (pos 4 ∷ replicate 19 (pos 0)) ∷ [])
    (39 ∷ 16 ∷ 83 ∷ 80 ∷ 68 ∷ 224 ∷ replicate 23 0) 16 (pos 3 ∷ pos 8 ∷ []) ∷
    refused (39 ∷ 16 ∷ 84 ∷ 0 ∷ 50 ∷ 0 ∷ []) 5 0 ∷  -- the edge of m at r 8: m 20
    -- the edge of m at r 16: p 8, x 0, p_0 3 and p_1 8, m 14
    accepted (56 ∷ 16 ∷ 78 ∷ 0 ∷ 50 ∷ 0 ∷ []) 0 (pos 0 ∷ pos 3 ∷ pos 8 ∷ []) (pos 216172782113783808 ∷ pos 576460752303423488 ∷ [])
    ((pos 3 ∷ replicate 14 (pos 0)) ∷ (pos 8 ∷ replicate 14 (pos 0)) ∷ [])
    (56 ∷ 16 ∷ 78 ∷ 60 ∷ 104 ∷ replicate 18 0) 16 (pos 3 ∷ pos 8 ∷ []) ∷
    refused (56 ∷ 16 ∷ 79 ∷ 0 ∷ 50 ∷ 0 ∷ []) 5 0 ∷  -- the edge of m at r 16: m 15
    -- A with x 3 and p_0 16, which is exactly 1: scale 1
    accepted (1 ∷ 16 ∷ 68 ∷ 13 ∷ 2 ∷ 0 ∷ []) 1 (pos 3 ∷ pos 16 ∷ pos 8 ∷ []) (pos 35 ∷ pos 16 ∷ [])
    ((pos 1 ∷ pos 0 ∷ pos 0 ∷ pos 1 ∷ minus 1 ∷ pos 1 ∷ []) ∷ (pos 1 ∷ minus 1 ∷ pos 0 ∷ pos 0 ∷ pos 0 ∷ pos 0 ∷ []) ∷ [])
    (1 ∷ 16 ∷ 68 ∷ 24 ∷ 33 ∷ 7 ∷ 192 ∷ 0 ∷ 131 ∷ 224 ∷ 8 ∷ 0 ∷ []) 32 (pos 35 ∷ pos 16 ∷ []) ∷
    -- A with x 3 and p_0 17: scale 2
    accepted (1 ∷ 16 ∷ 68 ∷ 13 ∷ 18 ∷ 0 ∷ []) 2 (pos 3 ∷ pos 17 ∷ pos 8 ∷ []) (pos 37 ∷ pos 16 ∷ [])
    ((pos 1 ∷ minus 1 ∷ pos 1 ∷ minus 1 ∷ minus 1 ∷ pos 1 ∷ minus 1 ∷ []) ∷ (pos 0 ∷ pos 1 ∷ minus 1 ∷ pos 0 ∷ pos 0 ∷ pos 0 ∷ pos 0 ∷ []) ∷ [])
    (1 ∷ 16 ∷ 68 ∷ 28 ∷ 32 ∷ 248 ∷ 67 ∷ 255 ∷ 131 ∷ 224 ∷ 8 ∷ 62 ∷ 0 ∷ []) 32 (pos 37 ∷ pos 16 ∷ []) ∷
    -- A with x 3 and p_1 -32, which is exactly -2: scale 2, by row 2
    accepted (1 ∷ 16 ∷ 68 ∷ 12 ∷ 56 ∷ 0 ∷ []) 2 (pos 3 ∷ pos 3 ∷ minus 32 ∷ []) (minus 6 ∷ minus 64 ∷ [])
    ((pos 0 ∷ pos 0 ∷ pos 0 ∷ minus 1 ∷ pos 1 ∷ minus 1 ∷ pos 0 ∷ []) ∷ (minus 1 ∷ pos 0 ∷ pos 0 ∷ pos 0 ∷ pos 0 ∷ pos 0 ∷ pos 0 ∷ []) ∷ [])
    (1 ∷ 16 ∷ 68 ∷ 28 ∷ 31 ∷ 0 ∷ 0 ∷ 15 ∷ 128 ∷ 32 ∷ 248 ∷ 0 ∷ 0 ∷ []) 16 (minus 3 ∷ minus 32 ∷ []) ∷
    -- the edge of m + 1 + s at r 2: A with x 3, m 58 and p_0 9, which has 60 steps
    accepted (1 ∷ 16 ∷ 122 ∷ 12 ∷ 146 ∷ 0 ∷ []) 1 (pos 3 ∷ pos 9 ∷ pos 8 ∷ []) (pos 378302368699121664 ∷ pos 288230376151711744 ∷ [])
    ((pos 1 ∷ minus 1 ∷ pos 1 ∷ minus 1 ∷ pos 1 ∷ minus 1 ∷ replicate 54 (pos 0)) ∷ (pos 1 ∷ minus 1 ∷ replicate 58 (pos 0)) ∷ [])
    (1 ∷ 16 ∷ 122 ∷ 240 ∷ 33 ∷ 255 ∷ 194 ∷ 15 ∷ 128 ∷ 32 ∷ 248 ∷ replicate 68 0) 32 (pos 21 ∷ pos 16 ∷ []) ∷
    refused (1 ∷ 16 ∷ 123 ∷ 12 ∷ 146 ∷ 0 ∷ []) 15 0 ∷  -- the edge of m + 1 + s at r 2: m 59 and p_0 9
    refused (1 ∷ 16 ∷ 123 ∷ 20 ∷ 146 ∷ 0 ∷ []) 8 1 ∷  -- the same with x 5: 8 comes before 15
    -- the edge of m + 1 + s at r 16: p 8, x 0, p_0 9 and p_1 8, m 13, which has 15 steps
    accepted (56 ∷ 16 ∷ 77 ∷ 0 ∷ 146 ∷ 0 ∷ []) 1 (pos 0 ∷ pos 9 ∷ pos 8 ∷ []) (pos 40532396646334464 ∷ pos 36028797018963968 ∷ [])
    ((pos 1 ∷ minus 7 ∷ replicate 13 (pos 0)) ∷ (pos 1 ∷ minus 8 ∷ replicate 13 (pos 0)) ∷ [])
    (56 ∷ 16 ∷ 77 ∷ 60 ∷ 33 ∷ 206 ∷ replicate 17 0) 16 (pos 9 ∷ pos 8 ∷ []) ∷
    refused (56 ∷ 16 ∷ 78 ∷ 0 ∷ 146 ∷ 0 ∷ []) 15 0 ∷  -- the edge of m + 1 + s at r 16: m 14
    -- the estimate at work: f 7, x 27, p -31 and 20, m 4. Row 1 has w -31/64 in steps 1 and 5, with the
    -- estimate -16/32: the digit is -1 and the residual 33/64, above 1/2. The nearest to w itself is 0. In
    -- step 3 w is 31/64, the estimate 15/32 and the digit 0. In all rows above w is its own estimate.
    accepted (1 ∷ 28 ∷ 68 ∷ 13 ∷ 248 ∷ 66 ∷ 128 ∷ []) 0 (pos 27 ∷ minus 31 ∷ pos 20 ∷ []) (minus 7 ∷ pos 5 ∷ [])
    ((minus 1 ∷ pos 1 ∷ pos 0 ∷ pos 1 ∷ minus 1 ∷ []) ∷ (pos 0 ∷ pos 1 ∷ minus 1 ∷ pos 1 ∷ minus 1 ∷ []) ∷ [])
    (1 ∷ 28 ∷ 68 ∷ 23 ∷ 224 ∷ 8 ∷ 65 ∷ 240 ∷ 135 ∷ 255 ∷ []) 4096 (minus 857 ∷ pos 640 ∷ []) ∷
    -- a sum of quotients: c_0 4, c_1 2, a_1 8, b_1 2, whose value is 9/28
    accepted (193 ∷ 16 ∷ 68 ∷ 16 ∷ 34 ∷ 2 ∷ []) 0 (pos 4 ∷ pos 2 ∷ pos 8 ∷ pos 2 ∷ []) (pos 10 ∷ pos 18 ∷ [])
    ((pos 1 ∷ minus 1 ∷ pos 1 ∷ minus 1 ∷ pos 0 ∷ []) ∷ (pos 1 ∷ pos 0 ∷ pos 1 ∷ minus 1 ∷ pos 0 ∷ []) ∷ [])
    (193 ∷ 16 ∷ 68 ∷ 20 ∷ 33 ∷ 248 ∷ 2 ∷ 31 ∷ 252 ∷ 0 ∷ []) 28 (pos 9 ∷ pos 16 ∷ []) ∷
    -- a sum of quotients of order 1: c_0 8 and nothing else is sent
    accepted (193 ∷ 16 ∷ 4 ∷ 32 ∷ []) 0 (pos 8 ∷ []) (pos 16 ∷ [])
    ((pos 1 ∷ pos 0 ∷ pos 0 ∷ pos 0 ∷ pos 0 ∷ []) ∷ [])
    (193 ∷ 16 ∷ 4 ∷ 20 ∷ 32 ∷ 0 ∷ 0 ∷ []) 2 (pos 1 ∷ []) ∷
    -- a sum of two quotients: c_1 1 and c_2 -2 weigh 3, b_1 3, b_2 -3; a_1 -9 gives it scale 1
    accepted (193 ∷ 16 ∷ 132 ∷ 20 ∷ 29 ∷ 195 ∷ 248 ∷ 111 ∷ 64 ∷ []) 1 (pos 5 ∷ pos 1 ∷ minus 9 ∷ pos 3 ∷ minus 2 ∷ pos 6 ∷ minus 3 ∷ []) (pos 7 ∷ minus 22 ∷ pos 10 ∷ [])
    ((pos 0 ∷ pos 1 ∷ minus 1 ∷ pos 0 ∷ minus 1 ∷ pos 1 ∷ []) ∷ (minus 1 ∷ pos 1 ∷ minus 1 ∷ pos 0 ∷ pos 1 ∷ pos 0 ∷ []) ∷ (pos 0 ∷ pos 1 ∷ minus 1 ∷ pos 1 ∷ minus 1 ∷ pos 0 ∷ []) ∷ [])
    (193 ∷ 16 ∷ 132 ∷ 24 ∷ 31 ∷ 0 ∷ 66 ∷ 31 ∷ 255 ∷ 224 ∷ 0 ∷ 126 ∷ 31 ∷ 132 ∷ 0 ∷ []) 988 (pos 227 ∷ minus 684 ∷ pos 312 ∷ []) ∷
    refused (193 ∷ 16 ∷ 68 ∷ 16 ∷ 66 ∷ 2 ∷ []) 8 1 ∷  -- a sum of quotients: c_1 4
    -- a sum of two quotients: c_1 2 and c_2 -2 weigh 4
    refused (193 ∷ 16 ∷ 132 ∷ 16 ∷ 34 ∷ 2 ∷ 248 ∷ 128 ∷ 128 ∷ []) 8 1 ∷
    -- a sum of two quotients: b_2 -4
    refused (193 ∷ 16 ∷ 132 ∷ 16 ∷ 18 ∷ 2 ∷ 4 ∷ 143 ∷ 0 ∷ []) 8 3 ∷
    []

-- ---- what is proved of it

-- how many rows it has
abbrev pub rows_in_table : ℕ
rows_in_table = length table

abbrev pub TableSize : Type 0
TableSize = rows_in_table ≡ 44

-- every row is what the definitions make of its frame
abbrev pub TableHolds : Type 0
TableHolds = map (λ (c : Case). outcome_of c.frame) table ≡ map (λ (c : Case). c.outcome) table

-- the values are one a row, over a denominator above 0, and exact: A times their vector is b
pub record Exact (c : Case) : Type 0 where
  pub one_a_row : length c.values ≡ order c.frame
  pub above_0 : 0 < c.denominator
  pub solved : ExactValues c.frame (at c.values) c.denominator

-- those of every accepted row are
abbrev pub ValuesExact : Type 0
ValuesExact = (c : Case) → Memᴰ c table → c.outcome.refusal ≡ 0 → Exact c
