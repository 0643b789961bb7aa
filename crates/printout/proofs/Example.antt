-- What `edigits` prints for case A with an x of 3, for two refused frames, and the least room. Computed from
-- the definitions. What else the cases come to stands in the table of the crate `cases`.
use mathlib.Core.Path.{◌≡◌, refl}
use mathlib.Core.List.{[], ◌∷◌, ◌++◌}
use Rattle.integers.specs.Flat.{list_from, stores}
use Rattle.integers.specs.Sum.{dot, weight, sum, total}
use Rattle.bitfields.specs.Layout.{field, number, bits, values_from}
use Rattle.bitfields.specs.Twos.{decode}
use Rattle.system.specs.Rows.{first_row_from}
use Rattle.system.specs.System.{curve_entry, matrix, right_side}
use Rattle.scale.specs.Scale.{every}
use Rattle.frame.specs.Frame.{frame_checks}
use Rattle.stepping.specs.Steps.{stepped_digits, stepped_residuals, steps, one_step}
use Rattle.recurrence.specs.Recurrence.{shifted, next_digit, next_residual, reading, select, rounded, estimate, cut_down, digit_size}
use Rattle.state.specs.State.{fresh}
use Rattle.text.specs.Text.{decimal_within, signed_decimal, line_end}
use Rattle.printout.specs.Printout.{items_from, step_lines, refused_word, frame_text, print_checks, print_answer}

-- A with the x of 3 that document 02 gives it: A's own frame is refused by 8
text_A : frame_text (1 ∷ 16 ∷ 68 ∷ 12 ∷ 50 ∷ 0 ∷ [])
    -- 0 2 1 4 2 4 0
    ≡ (48 ∷ 32 ∷ 50 ∷ 32 ∷ 49 ∷ 32 ∷ 52 ∷ 32 ∷ 50 ∷ 32 ∷ 52 ∷ 32 ∷ 48 ∷ 10 ∷ [])
    -- 1 0 1
    ++ (49 ∷ 32 ∷ 48 ∷ 32 ∷ 49 ∷ 10 ∷ [])
    -- 2 1 0
    ++ (50 ∷ 32 ∷ 49 ∷ 32 ∷ 48 ∷ 10 ∷ [])
    -- 3 0 0
    ++ (51 ∷ 32 ∷ 48 ∷ 32 ∷ 48 ∷ 10 ∷ [])
    -- 4 1 0
    ++ (52 ∷ 32 ∷ 49 ∷ 32 ∷ 48 ∷ 10 ∷ [])
    -- 5 -1 0
    ++ (53 ∷ 32 ∷ 45 ∷ 49 ∷ 32 ∷ 48 ∷ 10 ∷ [])
    -- = 9 16
    ++ (61 ∷ 32 ∷ 57 ∷ 32 ∷ 49 ∷ 54 ∷ 10 ∷ [])
unfolding frame_text frame_checks field number bits values_from decode first_row_from every weight total curve_entry matrix right_side list_from fresh steps one_step stepped_digits stepped_residuals shifted next_digit next_residual dot sum select rounded estimate cut_down digit_size stores reading decimal_within signed_decimal line_end items_from step_lines
text_A = refl

-- document 01's case D: refused 8 1
text_D : frame_text (1 ∷ 16 ∷ 68 ∷ 20 ∷ 50 ∷ 0 ∷ []) ≡ refused_word ++ (32 ∷ 56 ∷ 32 ∷ 49 ∷ 10 ∷ [])
unfolding frame_text frame_checks field number bits values_from decode first_row_from every weight total curve_entry matrix decimal_within line_end
text_D = refl

-- an empty frame: refused 1
text_empty : frame_text [] ≡ refused_word ++ (32 ∷ 49 ∷ 10 ∷ [])
unfolding frame_text frame_checks decimal_within line_end
text_empty = refl

-- one byte of room too few: 23. With just enough, the text of a refused frame is printed, and the call is
-- not refused
short_buffer : print_answer [] 32767 ≡ record { refusal = 23; length = 0 }
unfolding print_checks print_answer
short_buffer = refl

least-room : print_answer [] 32768 ≡ record { refusal = 0; length = 10 }
unfolding print_checks print_answer frame_text frame_checks decimal_within line_end
least-room = refl
