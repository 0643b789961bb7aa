-- Digits past row n and past step k (document 01, "Calls" and "Trace"): a record has 0 there, the trace
-- writer does not look at them, and the record of a state shows nothing that stands past the state's order.
-- Said of any bytes, any record and any state, whether or not a load made it. `proofs/PastOrder.antt` has a
-- proof of each statement.
use mathlib.Core.{Path.◌≡◌, List.List, Logic.◌⊎◌}
use Rattle.std.specs.Prelude.{ℕ, ◌<◌, ◌≤◌, pos}
use Rattle.integers.specs.Flat.{entry}
use Rattle.state.specs.{State.all_steps, State.SameBelow, declared.State.State}
use Rattle.trace.specs.{Trace.trace_reader_answer, Trace.record_answer, Trace.trace_writer_answer, Trace.trace_writer_buffer, declared.Record.Record}

-- ---- a record

-- it has 0 past step k and past row n
pub record RecordZeroPast (t : Record) : Type 0 where
  pub digits : (j i : ℕ) → j < all_steps → i < 16 → (t.k ≤ j) ⊎ (t.header.n ≤ i) → entry t.digits j i ≡ pos 0

-- So has the record of every state and that of every trace. With a refusal it is a record of zeros, whose k
-- is 0: of it this says that every digit is 0.
abbrev pub RecordZeros : Type 0
RecordZeros = (s : State) → RecordZeroPast (record_answer s).trace

abbrev pub ReadZeros : Type 0
ReadZeros = (bytes : List ℕ) → RecordZeroPast (trace_reader_answer bytes).trace

-- ---- the record of a state

-- it is the same for two states that agree below the order, and so is the refusal
abbrev pub RecordBelow : Type 0
RecordBelow = (s t : State) → SameBelow s t → record_answer s ≡ record_answer t

-- ---- the trace writer

-- two records with the same header, the same steps made, and the same digits of these steps in the rows below
-- the order
pub record SameMade (t w : Record) : Type 0 where
  pub header : t.header ≡ w.header
  pub steps : t.k ≡ w.k
  pub digits : (j i : ℕ) → j < t.k → i < t.header.n → entry t.digits j i ≡ entry w.digits j i

-- the same answer with every room, and the same bytes in every buffer lent
pub record WrittenAlike (t w : Record) : Type 0 where
  pub answer : (room : ℕ) → trace_writer_answer t room ≡ trace_writer_answer w room
  pub buffer : (out : List ℕ) → trace_writer_buffer t out ≡ trace_writer_buffer w out

abbrev pub WriteBelow : Type 0
WriteBelow = (t w : Record) → SameMade t w → WrittenAlike t w
