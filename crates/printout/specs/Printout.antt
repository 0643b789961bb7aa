-- What `edigits` prints for a frame (document 01, "Frames and digits"): a line kind, r, p, f, n, m, s; a line
-- for each step, its number and the digits by row; a line `=` and the readings. A refused frame prints one
-- line: `refused`, the number, and the row for 8.
use mathlib.Core.{Path.◌≡◌, Bool.Bool, Bool.cond, List.List, List.[], List.◌∷◌, List.◌++◌}
use Rattle.std.specs.Prelude.{ℕ, zero, suc, ◌<◌, Result, Ok, Err}
use lib.{Dec.eqb, Dec.ltb, IntN.ℤ, ListN.length, ListN.take}
use Rattle.bitfields.specs.Layout.{Bytes}
use Rattle.job.specs.{Header.radix, Refusal.Check, Refusal.first_refusal, Refusal.Decides, Refused.number_of, declared.Header.Header, declared.refusals.Refused.Refused}
use Rattle.frame.specs.Frame.{frame_refusal, frame_row, frame_numbers, most_bytes}
use Rattle.header.specs.Header.{header_of}
use Rattle.state.specs.{State.digits_of, State.fresh, State.state_last, declared.State.State}
use Rattle.stepping.specs.Steps.{steps}
use Rattle.evaluator.specs.Evaluator.{state_reading}
use Rattle.text.specs.Text.{decimal, signed_decimal, line, with_text}

-- f i, f (i + 1), .. , k of them, in decimal
unfoldable pub items_from : ℕ → ℕ → (ℕ → ℤ) → List (List ℕ)
items_from i zero f = []
items_from i (suc k) f = signed_decimal (f i) ∷ items_from (suc i) k f

abbrev pub header_line : Header → (scale : ℕ) → List ℕ
header_line h scale =
    line (decimal h.kind)
    (decimal (radix h.code) ∷ decimal h.p ∷ decimal h.f ∷ decimal h.n ∷ decimal h.m ∷ decimal scale ∷ [])

-- the line of step j, from 1
abbrev pub step_line : State → ℕ → List ℕ
step_line s j = line (decimal j) (items_from 0 s.header.n (digits_of s.digits j))

-- the lines of k steps from step j on
unfoldable pub step_lines : State → ℕ → ℕ → List ℕ
step_lines s j zero = []
step_lines s j (suc k) = step_line s j ++ step_lines s (suc j) k

-- 61 is `=`
abbrev pub readings_line : State → List ℕ
readings_line s = line (61 ∷ []) (items_from 0 s.header.n (state_reading s))

-- of a job with all its steps made
abbrev pub job_text : State → List ℕ
job_text s = header_line s.header s.scale ++ step_lines s 1 s.k ++ readings_line s

-- refused
abbrev pub refused_word : List ℕ
refused_word = 114 ∷ 101 ∷ 102 ∷ 117 ∷ 115 ∷ 101 ∷ 100 ∷ []

abbrev pub refused_text : ℕ → ℕ → List ℕ
refused_text c row = line refused_word (decimal c ∷ cond (eqb c 8) (decimal row ∷ []) [])

-- a fresh job with all its steps made
abbrev pub with_all_steps : State → State
with_all_steps s = steps s (state_last s)

unfoldable pub frame_text : List ℕ → List ℕ
frame_text s =
    cond (eqb (frame_refusal s) 0) (job_text (with_all_steps (fresh (header_of s) (frame_numbers s))))
    (refused_text (frame_refusal s) (frame_row (frame_refusal s) (header_of s) (frame_numbers s)))

-- An input longer than every frame, which has at most 1,431 bytes, is refused by its header or its length:
-- the bytes past those change nothing, so that `edigits` may cut its input there or later.
abbrev pub CutText : Type 0
CutText = (s : List ℕ) (k : ℕ) → Bytes s → most_bytes < k → frame_text (take k s) ≡ frame_text s

-- ---- print_frame: refused by 23. It is lent `room` bytes

-- The room that every text has: 2^15 bytes are enough for a header's line of 147, 60 steps' lines of 373 and
-- a readings' line of 354, at most.
abbrev pub text_room : ℕ
text_room = 32768

-- 23: fewer bytes than are enough for every text
abbrev pub text_buffer_too_short : ℕ → Bool
text_buffer_too_short room = ltb room text_room

unfoldable pub print_checks : ℕ → List Check
print_checks room = (23, text_buffer_too_short room) ∷ []

abbrev pub print_refusal : ℕ → ℕ
print_refusal room = first_refusal (print_checks room)

-- demand 1
abbrev pub PrintDecided : Type 0
PrintDecided = (room : ℕ) → Decides (print_checks room) (print_refusal room)

-- what it answers in document 01's numbers: a refusal number of the call itself, 0 where there is none, and the
-- number of bytes put
pub record Printed : Type 0 where
  pub refusal : ℕ
  pub length : ℕ

-- what its result says in these numbers
abbrev pub printed : Result ℕ Refused → Printed
printed (Ok n) = record { refusal = 0; length = n }
printed (Err e) = record { refusal = number_of e; length = 0 }

-- the number of bytes, 0 when refused
unfoldable pub print_answer : List ℕ → ℕ → Printed
print_answer s room = record { refusal = print_refusal room; length = cond (eqb (print_refusal room) 0) (length (frame_text s)) 0 }

-- the text, and the bytes past it as they were; with a refusal all bytes as they were
unfoldable pub print_buffer : List ℕ → List ℕ → List ℕ
print_buffer s out = cond (eqb (print_refusal (length out)) 0) (with_text out 0 (frame_text s)) out
