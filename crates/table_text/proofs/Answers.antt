-- What `write_table` answers and leaves, in a buffer with too little room and in one with enough. Cited by
-- its proof.
use mathlib.Core.Path.{◌≡◌, refl}
use mathlib.Core.List.{List}
use Prim.Native.Nat.{ℕ, ◌<◌, ◌≤◌}
use native.Mathlib.Omega.{arith}
use borrow.Author.Tests.{lt-ltb, le-ltb}
use lib.ListN.{length}
use Rattle.job.proofs.Refusal.{decided}
use Rattle.text.specs.Text.{Put}
use Rattle.table_text.specs.TableText.{TableWritten, table_text, table_room, table_checks, table_answer, table_buffer, TableDecided}

pub table_decided : TableDecided
unfolding table_checks
table_decided room = decided (table_checks room) tt

module _ (out : List ℕ) where
  pub table-refused : length out < table_room → ◌≡◌ {A = TableWritten} (record { refusal = 23; length = 0 }) (table_answer (length out)) × (out ≡ table_buffer out)
  unfolding table_checks table_answer table_buffer
  table-refused h = rw (lt-ltb (length out) table_room h) (refl, refl)

  pub table-accepted : {n : ℕ} {after : List ℕ} → table_room ≤ length out → Put out 0 table_text after n
      → ◌≡◌ {A = TableWritten} (record { refusal = 0; length = n }) (table_answer (length out)) × (after ≡ table_buffer out)
  unfolding table_checks table_answer table_buffer
  table-accepted {n} h p =
      let e : n ≡ length table_text = omega (arith, p.ends) in
      rw (le-ltb (length out) table_room h, e, p.holds) (refl, refl)
