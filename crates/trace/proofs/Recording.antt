-- The laws of the record of a state, over the code's variables. Assumes nothing.
use mathlib.Core.Path.{◌≡◌, sym}
use mathlib.Core.List.{List}
use Prim.Native.Nat.{ℕ, ◌<◌, ◌≤◌}
use native.Mathlib.Omega.{arith}
use borrow.Author.Tests.{ne_eqb}
use lib.IntN.{ℤ}
use Rattle.state.specs.declared.State.{State}
use Rattle.trace.specs.Trace.{Recorded, digit_array, digit_list, record_answer, state_record, record_refusal, record_of}
use Rattle.trace.specs.Inner.{no_record}
use Rattle.trace.proofs.Valid.{recorded_valid, record_steps_most}

module _ (s : State) where
  pub record_refused : (c : ℕ) → c ≡ record_refusal s → 0 < c → no_record c ≡ record_answer s
  unfolding record_answer
  record_refused c r z = rw (← r, ne_eqb c 0 (λ e. omega arith))

  module _ (r : 0 ≡ record_refusal s) where
    pub record_small : (s.header.n ≤ 16) × (s.k ≤ 60)
    record_small = let a = recorded_valid s (sym r) in (a.limits.order_most, record_steps_most a)

    pub record_made : (ds : List ℤ) → ds ≡ digit_array s.header.n s.k (digit_list s.header.n s.k s.digits)
        → ◌≡◌ {A = Recorded} (record { refusal = 0; trace = record_of s.header s.k ds }) (record_answer s)
    unfolding record_answer state_record
    record_made ds e = rw (← r, e)
