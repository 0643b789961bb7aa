-- What the functions for the bench give and leave, cited by the contracts of src/lib.rt. The state of a
-- refused load and the record of a refused trace have zeros.
use mathlib.Core.{Path.◌≡◌, Bool.cond, List.List}
use Rattle.std.specs.Prelude.{ℕ, zero, suc}
use lib.{Dec.ltb, IntN.ℤ, IntN.pos, ListN.length}
use Rattle.integers.specs.Flat.{at, entry}
use Rattle.trace.specs.{Trace.trace_writer_answer, Trace.trace_writer_buffer, declared.Record.Record}

-- an entry of G, or past column 15 the residual of the row; 0 past row 15
unfoldable pub probed : (g z : List ℤ) (row column : ℕ) → ℤ
probed g z row column = cond (ltb row 16) (cond (ltb column 16) (entry g row column) (at z row)) (pos 0)

-- the bytes after the record is written into them so many times
unfoldable pub rewritten : (t : Record) (times : ℕ) (out : List ℕ) → List ℕ
rewritten t zero out = out
rewritten t (suc j) out = trace_writer_buffer t (rewritten t j out)

-- the record is written once and so many times more: the bytes of a write, and what is left of the lent ones
pub record Rewrites (t : Record) (more : ℕ) (given : List ℕ) (bytes : ℕ) (left : List ℕ) : Type 0 where
  pub size : bytes ≡ (trace_writer_answer t (length given)).length
  pub buffer : left ≡ rewritten t more (trace_writer_buffer t given)
