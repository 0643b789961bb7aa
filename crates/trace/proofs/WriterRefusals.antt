-- The trace writer's refusals, and what it answers and leaves, over the code's variables. Assumes nothing.
use mathlib.Core.Path.{◌≡◌, refl, sym}
use mathlib.Core.Bool.{Bool, true, false}
use mathlib.Core.List.{List, [], ◌∷◌}
use Prim.Native.Nat.{ℕ, ◌<◌, ◌≤◌}
use native.Mathlib.Omega.{arith}
use borrow.Author.Tests.{le-ltb, lt-ltb, ne_eqb}
use lib.ListN.{length}
use Rattle.bitfields.specs.Layout.{written}
use Rattle.job.specs.Header.{trace_header_checks, Limits}
use Rattle.job.proofs.Limits.{trace-limits}
use Rattle.job.specs.Refusal.{Check, first_refusal}
use Rattle.job.proofs.Refusal.{accepted-before, refused-before}
use Rattle.trace.specs.Trace.{TraceWritten, trace_fields, trace_length, too_many_steps, trace_buffer_too_short, trace_writer_checks, trace_writer_refusal, trace_writer_answer, trace_writer_buffer, ValidRecord}
use Rattle.state.specs.State.{digit_beyond}
use Rattle.trace.proofs.Valid.{record_taken}
use Rattle.trace.specs.declared.Record.{Record}

-- ---- the refusals: 2, 14, 3, 4, 5, 10, 11, 23

module _ (t : Record) (room : ℕ) where
  abbrev rest : List Check
  rest = (10, too_many_steps t.header t.k) ∷ (11, digit_beyond t.header t.k t.digits) ∷ (23, trace_buffer_too_short t room) ∷ []

  pub writer_refused-header : (c : ℕ) → c ≡ first_refusal (trace_header_checks t.header) → 0 < c → c ≡ trace_writer_refusal t room
  unfolding trace_writer_checks
  writer_refused-header c r z = sym (refused-before (trace_header_checks t.header) rest c z (sym r))

  module _ (r : 0 ≡ first_refusal (trace_header_checks t.header)) where
    pub writer_header-limits : Limits t.header
    writer_header-limits = (trace-limits t.header).0 (sym r)

    rest_decides : trace_writer_refusal t room ≡ first_refusal rest
    unfolding trace_writer_checks
    rest_decides = accepted-before (trace_header_checks t.header) rest tt (sym r)

    pub refused-steps : too_many_steps t.header t.k ≡ true → 10 ≡ trace_writer_refusal t room
    refused-steps l = rw (rest_decides, l)

    module _ (b : Bool) (l : too_many_steps t.header t.k ≡ false) (e : b ≡ digit_beyond t.header t.k t.digits) where
      pub refused-digit : b ≡ true → 11 ≡ trace_writer_refusal t room
      refused-digit f = rw (rest_decides, l, ← e, f)

      pub refused-room : (n : ℕ) → b ≡ false → n ≡ trace_length t.header t.k → room < n → 23 ≡ trace_writer_refusal t room
      refused-room n f g q = rw (rest_decides, l, ← e, f, lt-ltb room (trace_length t.header t.k) (rw g at q))

      pub refused_not : (n : ℕ) → b ≡ false → n ≡ trace_length t.header t.k → n ≤ room → 0 ≡ trace_writer_refusal t room
      refused_not n f g q = rw (rest_decides, l, ← e, f, le-ltb room (trace_length t.header t.k) (rw g at q))

-- ---- what the writer answers and leaves

module _ (t : Record) (out : List ℕ) where
  pub trace_answer-refused : (c : ℕ) → c ≡ trace_writer_refusal t (length out) → 0 < c
      → ◌≡◌ {A = TraceWritten} (record { refusal = c; length = 0 }) (trace_writer_answer t (length out)) × (out ≡ trace_writer_buffer t out)
  unfolding trace_writer_answer trace_writer_buffer
  trace_answer-refused c r z = rw (← r, ne_eqb c 0 (λ e. omega arith)) (refl, refl)

  module _ (r : 0 ≡ trace_writer_refusal t (length out)) where
    pub writer_takes : ValidRecord t × (trace_length t.header t.k ≤ length out)
    writer_takes = (record_taken t (length out)).0 (sym r)

    pub trace_answer-written : (n : ℕ) (b : List ℕ) → n ≡ trace_length t.header t.k → b ≡ written out (trace_fields t.header t.k t.digits)
        → ◌≡◌ {A = TraceWritten} (record { refusal = 0; length = n }) (trace_writer_answer t (length out)) × (b ≡ trace_writer_buffer t out)
    unfolding trace_writer_answer trace_writer_buffer
    trace_answer-written n b e d = rw (← r, e, d) (refl, refl)
