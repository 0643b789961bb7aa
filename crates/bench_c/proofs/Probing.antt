-- The state of a refused frame has zeros, and so each entry and residual of it is 0.
use mathlib.Core.Path.{◌≡◌, refl, sym, ap, ◌∙◌}
use mathlib.Core.Bool.{Bool, true, false, cond}
use Prim.Native.Nat.{ℕ, ◌*◌, ◌+◌, ◌<◌, ◌≤◌}
use native.Mathlib.Omega.{arith}
use mathlib.Core.Logic.{◌⊎◌, inl, inr}
use lib.IntN.{ℤ, pos}
use lib.ListN.{replicate, length-replicate, get_or, get_or-replicate, get_or-eq_default}
use lib.Dec.{ltb}
use Rattle.integers.proofs.Maximum.{le_or_lt}
use Rattle.job.specs.Refused.{number_of, row_of}
use Rattle.job.specs.declared.refusals.Refused.{Refused}
use Rattle.state.specs.State.{idle_state}
use Rattle.evaluator.specs.Evaluator.{Loaded}
use Rattle.bench_c.specs.Bench.{probed}

zero_at : (n i : ℕ) → get_or (replicate n (pos 0)) i (pos 0) ≡ pos 0
zero_at n i = by_case (le_or_lt n i)
  where
    by_case : (n ≤ i) ⊎ (i < n) → get_or (replicate n (pos 0)) i (pos 0) ≡ pos 0
    by_case (inl l) = get_or-eq_default (replicate n (pos 0)) (pos 0) (omega (arith, length-replicate n (pos 0)))
    by_case (inr l) = get_or-replicate n i (pos 0) (pos 0) l

same : (b : Bool) (z : ℤ) → cond b z z ≡ z
same true z = refl
same false z = refl

zeros_probed : (row column : ℕ) → probed idle_state.g idle_state.z row column ≡ pos 0
unfolding probed idle_state
zeros_probed row column = rw (zero_at 256 (16 * row + column), zero_at 16 row, same (ltb column 16) (pos 0)) (same (ltb row 16) (pos 0))

pub refused_probe : (e : Refused) (l : Loaded) (row column : ℕ) → record { refusal = number_of e; row = row_of e; state = idle_state } ≡ l
    → pos 0 ≡ probed l.state.g l.state.z row column
refused_probe e l row column f = sym (ap (λ (x : Loaded). probed x.state.g x.state.z row column) (sym f) ∙ zeros_probed row column)
