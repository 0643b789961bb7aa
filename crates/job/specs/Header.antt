-- The header of a job (document 01, "Job frame"), its limits, and how many numbers and bits follow it. Cited
-- by the readers and writers of frames and traces and by what the evaluator asks of a state.
use mathlib.Core.{Bool.Bool, Bool.not, Bool.◌||◌, List.List, List.[], List.◌∷◌, Path.◌≡◌, Logic.◌↔◌}
use Rattle.std.specs.Prelude.{ℕ, ◌+◌, ◌*◌, ◌-◌, ◌/◌, ◌^◌, ◌≤◌, ltb, leb, eqb}
use Rattle.job.specs.{Kind.kind_of, Kind.is_unused, Kind.count_of, Refusal.Check, Refusal.first_refusal, declared.Header.Header}

-- log2 of the radix: the radix code 0, 1, 2, 3 stands for radix 2, 4, 8, 16
abbrev pub digit_bits : ℕ → ℕ
digit_bits code = code + 1

abbrev pub radix : ℕ → ℕ
radix code = 2 ^ digit_bits code

-- the numbers of a job are in units of 1 / unit
abbrev pub unit : Header → ℕ
unit h = 2 ^ h.f

-- the bits of a number
abbrev pub number_bits : Header → ℕ
number_bits h = h.f + 2

-- how many numbers a job has
abbrev pub count : Header → ℕ
count h = count_of (kind_of h.kind) h.n

-- ---- the conditions of refusals 2, 3, 4, 5 and 14

-- the radix codes that load, the frame reader and the frame writer take, and that a state may have
abbrev pub frame_code : ℕ → Bool
frame_code code = leb code 3

-- the radix codes that the trace reader and the trace writer take
abbrev pub trace_code : ℕ → Bool
trace_code code = leb code 3

-- 2: a kind past its table, or a radix code that is not known to the call. In a frame or a trace both fields
-- have two bits, which hold no number past the tables: then nothing is refused by it.
abbrev pub unknown_kind : Bool → Header → Bool
unknown_kind known h = is_unused (kind_of h.kind) || not known

-- 3: p outside r/2 to r - 1
abbrev pub digit_out_of_range : Header → Bool
digit_out_of_range h = ltb h.p (radix h.code / 2) || ltb (radix h.code - 1) h.p

-- 4: f outside 4 to 40
abbrev pub fraction_out_of_range : Header → Bool
fraction_out_of_range h = ltb h.f 4 || ltb 40 h.f

-- k digits take more than 60 bits: k × log2(r) above 60
abbrev pub past_60_bits : (code k : ℕ) → Bool
past_60_bits code k = ltb 60 (k * digit_bits code)

-- 5: m is 0, or (m + 1) × log2(r) above 60
abbrev pub steps_out_of_range : Header → Bool
steps_out_of_range h = eqb h.m 0 || past_60_bits h.code (h.m + 1)

-- 14: n outside 1 to 16
abbrev pub order_out_of_range : Header → Bool
order_out_of_range h = ltb h.n 1 || ltb 16 h.n

-- ---- in the orders of document 01

-- 3, 4, 5
abbrev pub range_checks : Header → List Check
range_checks h = (3, digit_out_of_range h) ∷ (4, fraction_out_of_range h) ∷ (5, steps_out_of_range h) ∷ []

-- of a header that was read, whose order is 1 to 16 by its width: 2 to 5
abbrev pub read_checks_knowing : Bool → Header → List Check
read_checks_knowing known h = (2, unknown_kind known h) ∷ range_checks h

-- of a header of any numbers: 2, 14, 3, 4, 5
abbrev pub header_checks_knowing : Bool → Header → List Check
header_checks_knowing known h = (2, unknown_kind known h) ∷ (14, order_out_of_range h) ∷ range_checks h

-- of a frame that was read; of what the frame writer is given, and of a state
abbrev pub read_checks : Header → List Check
read_checks h = read_checks_knowing (frame_code h.code) h

abbrev pub header_checks : Header → List Check
header_checks h = header_checks_knowing (frame_code h.code) h

-- of a trace that was read, and of what the trace writer is given
abbrev pub trace_read_checks : Header → List Check
trace_read_checks h = read_checks_knowing (trace_code h.code) h

abbrev pub trace_header_checks : Header → List Check
trace_header_checks h = header_checks_knowing (trace_code h.code) h

-- the header that goes with a refusal
abbrev pub zero_header : Header
zero_header = record { kind = 0; code = 0; p = 0; f = 0; n = 0; m = 0 }

-- ---- the limits as facts on the header's numbers

pub record Limits (h : Header) : Type 0 where
  pub kind_most : h.kind ≤ 3
  pub code_most : h.code ≤ 3
  pub order_least : 1 ≤ h.n
  pub order_most : h.n ≤ 16
  pub digit_least : radix h.code / 2 ≤ h.p
  pub digit_most : h.p ≤ radix h.code - 1
  pub fraction_least : 4 ≤ h.f
  pub fraction_most : h.f ≤ 40
  pub steps_least : 1 ≤ h.m
  pub steps_most : (h.m + 1) * digit_bits h.code ≤ 60

-- They are just what refusals 2, 14, 3, 4 and 5 leave. Proved in proofs/Limits.antt, as `limits_exactly`.
abbrev pub LimitsExactly : Type 0
LimitsExactly = (h : Header) → (first_refusal (header_checks h) ≡ 0) ↔ Limits h
