-- The laws of a header's bits. Cited by the proofs of `src/lib.rt` and of formats that begin with a header.
use mathlib.Core.Path.{◌≡◌, ap}
use mathlib.Core.List.{List, [], ◌∷◌, ◌++◌}
use mathlib.Core.Logic.{◌↔◌}
use Prim.Native.Nat.{ℕ, ◌+◌, ◌-◌, ◌/◌, ◌%◌, ◌<◌, ◌≤◌}
use native.Mathlib.Nat.{div-one}
use native.Mathlib.Omega.{arith}
use lib.ListN.{length, take, drop}
use Rattle.bitfields.specs.Layout.{Field, Fit, none, more, number8, Bytes, field, fields}
use Rattle.bitfields.proofs.Reading.{field_lt}
use Rattle.bitfields.proofs.Spelling.{values}
use Rattle.bitfields.proofs.Steps.{window}
use Rattle.job.specs.Header.{read_checks, Limits}
use Rattle.job.specs.Refusal.{first_refusal}
use Rattle.job.proofs.Limits.{read_limits, digit-small, steps-small}
use Rattle.job.specs.declared.Header.{Header}
use Rattle.header.specs.Header.{header_fields, header_of}

-- ---- a header that was read

-- has an order of 1 to 16
pub read_order : (s : List ℕ) → (1 ≤ (header_of s).n) × ((header_of s).n ≤ 16)
read_order s = (omega arith, omega (arith, field_lt s 14 4))

-- so 2 to 5 are enough for the limits
pub header_is : (s : List ℕ) → (first_refusal (read_checks (header_of s)) ≡ 0) ↔ Limits (header_of s)
header_is s = read_limits (header_of s) (read_order s).0 (read_order s).1

-- the fields in the number x of the first three bytes
abbrev pub header_in : ℕ → Header
header_in x =
    record {
      kind = x / 4194304 % 4;
      code = x / 1048576 % 4;
      p = x / 65536 % 16;
      f = x / 1024 % 64;
      n = x / 64 % 16 + 1;
      m = x % 64;
    }

pub header_read : {s : List ℕ} {x : ℕ} → Bytes s → 3 ≤ length s → x ≡ number8 (take 3 (drop 0 s)) → header_in x ≡ header_of s
header_read {s} b l e =
    let kind = window 0 3 0 2 b l (omega arith) (omega arith) in
    let code = window 0 3 2 2 b l (omega arith) (omega arith) in
    let p = window 0 3 4 4 b l (omega arith) (omega arith) in
    let f = window 0 3 8 6 b l (omega arith) (omega arith) in
    let n = window 0 3 14 4 b l (omega arith) (omega arith) in
    let m = rw div-one at (window 0 3 18 6 b l (omega arith) (omega arith)) in
    rw (e, kind, code, p, f, n, m)

-- ---- a header within the limits

-- each field is below 2 to its width
pub fields-small : {h : Header} → Limits h → (h.kind < 4) × (h.code < 4) × (h.p < 16) × (h.f < 64) × (h.n - 1 < 16) × (h.m < 64)
fields-small {h} l = (
  omega (arith, l.kind_most),
  omega (arith, l.code_most),
  omega (arith, digit-small h l),
  omega (arith, l.fraction_most),
  omega (arith, l.order_most),
  omega (arith, steps-small h l),
)

pub fit-header : {h : Header} → Limits h → Fit (header_fields h)
fit-header {h} l =
    let s = fields-small l in
    more {w = 2} {v = h.kind} s.0
    (more {w = 2} {v = h.code} s.1
    (more {w = 4} {v = h.p} s.2
    (more {w = 6} {v = h.f} s.3
    (more {w = 4} {v = h.n - 1} s.4
    (more {w = 6} {v = h.m} s.5 none)))))

-- the widths of the fields
abbrev pub header-widths : List ℕ
header-widths = 2 ∷ 2 ∷ 4 ∷ 6 ∷ 4 ∷ 6 ∷ []

-- bytes whose first fields are those of a header spell that header, whatever follows
pub header_spelled : (s ws : List ℕ) {h : Header} {fs : List Field} → fields s 0 (header-widths ++ ws) ≡ header_fields h ++ fs → 1 ≤ h.n
    → header_of s ≡ h
unfolding fields
header_spelled s ws {h} e o =
    let v = ap values e in
    let kind : field s 0 2 ≡ h.kind = cc in
    let code : field s 2 2 ≡ h.code = cc in
    let p : field s 4 4 ≡ h.p = cc in
    let f : field s 8 6 ≡ h.f = cc in
    let order : field s 14 4 ≡ h.n - 1 = cc in
    let n : h.n - 1 + 1 ≡ h.n = omega arith in
    let m : field s 18 6 ≡ h.m = cc in
    rw (kind, code, p, f, order, n, m)
