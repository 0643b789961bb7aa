-- Refusal 24 in the order in which the code looks at its conditions: the first that holds decides, and where
-- the others pass the digits do. Cited by the proof of `breaks_limit`.
use mathlib.Core.Path.{◌≡◌, refl, sym, ap, ◌∙◌}
use mathlib.Core.Bool.{Bool, true, false, ◌||◌}
use Prim.Native.Nat.{ℕ, ◌<◌, ◌≤◌}
use native.Mathlib.Omega.{arith}
use borrow.Author.Tests.{lt-ltb, le-ltb}
use lib.Dec.{ltb}
use Rattle.job.specs.Header.{header_checks, Limits}
use Rattle.job.proofs.Limits.{limits_exactly, digit-small, steps-small, scale-limits, scale_small, last-small}
use Rattle.job.specs.Refusal.{first_refusal}
use Rattle.job.specs.Refused.{refusal_of}
use Rattle.job.specs.declared.refusals.Refused.{Refused}
use Rattle.job.proofs.Numbers.{refused_test, not_refused}
use Rattle.std.specs.Prelude.{Result, is_err, Option, is_some}
use Rattle.integers.specs.Flat.{at, entry}
use Rattle.system.specs.Rows.{row_given, heavy_row, large_residual}
use Rattle.system.proofs.FirstRow.{given_test}
use Rattle.job.specs.Rules.{ScaleLimits}
use Rattle.state.specs.State.{state_last, header_broken, scale_broken, row_broken, residual_broken, digit_beyond, later_digit, breaks_limit}
use Rattle.state.specs.declared.State.{State}

-- ---- what the calls say, as the conditions

module _ (s : State) where
  pub header_said : {b : Bool} (r : Result Unit Refused) → b ≡ is_err r → refusal_of r ≡ first_refusal (header_checks s.header) → b ≡ header_broken s
  header_said r e f = e ∙ refused_test r ∙ ap (ltb 0) f

  pub row_said : {b : Bool} (r : Option ℕ) → b ≡ is_some r → r ≡ row_given (heavy_row s.header (entry s.g)) → b ≡ row_broken s
  row_said r e f = e ∙ ap is_some f ∙ given_test (heavy_row s.header (entry s.g))

  pub residual_said : {b : Bool} (r : Option ℕ) → b ≡ is_some r → r ≡ row_given (large_residual s.header s.scale (at s.z)) → b ≡ residual_broken s
  residual_said r e f = e ∙ ap is_some f ∙ given_test (large_residual s.header s.scale (at s.z))

-- ---- a says whether the header is refused, and b whether the scale is out of its limits

module _ (s : State) {a : Bool} (p : a ≡ header_broken s) where
  pub header_breaks : a ≡ true → true ≡ breaks_limit s
  unfolding breaks_limit
  header_breaks t = rw (← p, t)

  module _ (e : a ≡ false) where
    pub header-passes : Limits s.header
    header-passes = (limits_exactly s.header).0 (not_refused (header_checks s.header) (sym p ∙ e))

    module _ {b : Bool} (o : b ≡ scale_broken s) where
      pub scale_breaks : b ≡ true → true ≡ breaks_limit s
      unfolding breaks_limit
      scale_breaks t = rw (← p, e, ← o, t)

      module _ (f : b ≡ false) where
        pub scale-passes : ScaleLimits s.header s.scale
        scale-passes = (scale-limits s.header s.scale).0 (sym o ∙ f)

        -- the last step can be asked for, and the digits searched
        pub last_asked : (s.header.m ≤ 60) × (s.scale ≤ 2)
        last_asked = (steps-small s.header header-passes, scale_small s.header s.scale scale-passes)

        pub searchable : s.k ≤ state_last s → (s.header.n ≤ 16) × (s.header.p ≤ 127) × (s.k ≤ 60)
        searchable m =
            (header-passes.order_most, omega (arith, digit-small s.header header-passes), omega (arith, last-small s.header s.scale scale-passes))

        pub steps_break : state_last s < s.k → true ≡ breaks_limit s
        unfolding breaks_limit
        steps_break m = rw (← p, e, ← o, f, lt-ltb (state_last s) s.k m)

        -- c and d say whether the searches of heavy rows and of large residuals give a row
        module _ (m : s.k ≤ state_last s) {c : Bool} (q : c ≡ row_broken s) where
          pub row_breaks : c ≡ true → true ≡ breaks_limit s
          unfolding breaks_limit
          row_breaks t = rw (← p, e, ← o, f, le-ltb (state_last s) s.k m, ← q, t)

          module _ (g : c ≡ false) {d : Bool} (r : d ≡ residual_broken s) where
            pub residual_breaks : d ≡ true → true ≡ breaks_limit s
            unfolding breaks_limit
            residual_breaks t = rw (← p, e, ← o, f, le-ltb (state_last s) s.k m, ← q, g, ← r, t)

            pub digits_decide : d ≡ false → (t : Bool) → t ≡ (digit_beyond s.header s.k s.digits || later_digit s) → t ≡ breaks_limit s
            unfolding breaks_limit
            digits_decide h t x = x ∙ rw (← p, e, ← o, f, le-ltb (state_last s) s.k m, ← q, g, ← r, h) refl
