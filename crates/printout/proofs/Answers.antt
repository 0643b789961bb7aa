-- What `print_frame` answers and leaves, in a buffer with too little room and in one with enough. Cited by
-- its proof and by the programs that call it.
use mathlib.Core.Path.{◌≡◌, refl}
use mathlib.Core.List.{List}
use Prim.Native.Nat.{ℕ, ◌<◌, ◌≤◌}
use borrow.Author.Tests.{lt-ltb, le-ltb}
use lib.ListN.{length}
use Rattle.text.specs.Text.{with_text}
use Rattle.printout.specs.Printout.{frame_text, print_checks, print_answer, print_buffer, Printed, PrintDecided, text_room}
use Rattle.job.proofs.Refusal.{decided}

pub print_decided : PrintDecided
unfolding print_checks
print_decided room = decided (print_checks room) tt

module _ (s out : List ℕ) where
  pub print_refused : length out < text_room → ◌≡◌ {A = Printed} (record { refusal = 23; length = 0 }) (print_answer s (length out)) × (out ≡ print_buffer s out)
  unfolding print_checks print_answer print_buffer
  print_refused h = rw (lt-ltb (length out) text_room h) (refl, refl)

  pub print_accepted : (n : ℕ) (after : List ℕ) → text_room ≤ length out → n ≡ length (frame_text s) → after ≡ with_text out 0 (frame_text s)
      → ◌≡◌ {A = Printed} (record { refusal = 0; length = n }) (print_answer s (length out)) × (after ≡ print_buffer s out)
  unfolding print_checks print_answer print_buffer
  print_accepted n after h e f = rw (le-ltb (length out) text_room h, e, f) (refl, refl)
