-- The header that a job frame and a trace begin with (document 01, "Job frame").
use Rattle.std.specs.Prelude.{List, [], ◌∷◌, ℕ, ◌+◌, ◌-◌}
use Rattle.bitfields.specs.Layout.{Field, field}
use Rattle.job.specs.declared.Header.{Header}

-- kind, radix code, p, f, the order as n - 1, m
abbrev pub header_fields : Header → List Field
header_fields h = (2, h.kind) ∷ (2, h.code) ∷ (4, h.p) ∷ (6, h.f) ∷ (4, h.n - 1) ∷ (6, h.m) ∷ []

-- the bits that they take, in three bytes
abbrev pub header_bits : ℕ
header_bits = 24

-- the header that the first three bytes spell
abbrev pub header_of : List ℕ → Header
header_of s =
    record {
      kind = field s 0 2;
      code = field s 2 2;
      p = field s 4 4;
      f = field s 8 6;
      n = field s 14 4 + 1;
      m = field s 18 6;
    }
