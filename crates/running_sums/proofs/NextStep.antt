-- The proof of `NextStepAdds`: the last sums are those over all columns, which the next step adds.
use mathlib.Core.Path.{◌≡◌, refl, sym, ap, ◌∙◌}
use Prim.Native.Nat.{ℕ, ◌<◌, ◌≤◌}
use native.Mathlib.Omega.{arith}
use lib.IntN.{ℤ, pos, ◌+ℤ◌, ◌-ℤ◌, ◌*ℤ◌}
use lib.ListN.{length}
use Rattle.integers.specs.Flat.{at, entry}
use Rattle.integers.specs.Sum.{dot}
use Rattle.integers.proofs.Flat.{at-flat_vector}
use Rattle.integers.proofs.Product.{dot_ext, dot-scale}
use Rattle.job.specs.Header.{radix}
use Rattle.recurrence.specs.Recurrence.{select, shifted, next_digit, next_residual}
use Rattle.state.specs.State.{state_unit}
use Rattle.state.specs.declared.State.{State}
use Rattle.stepping.specs.Steps.{finer, last_digits, state_factor, chosen_digits, one_step}
use Rattle.stepping.proofs.Stepped.{stepped_digit, stepped_residual}
use Rattle.stepping.proofs.Steps.{stored_same}
use Rattle.running_sums.specs.RunningSums.{last_digit}
use Rattle.running_sums.specs.Theorems.{last_sum, next_w, NextStepAdds}
use Rattle.running_sums.proofs.Places.{last_sum_is}

module _ (s : State) (order : s.header.n ≤ 16) (i : ℕ) (l : i < s.header.n) where
  abbrev n : ℕ
  n = s.header.n

  abbrev r : ℕ
  r = radix s.header.code

  -- document 01's w of the next step, with the last sum for the row's sum over the columns
  w_is : shifted n r (finer (state_factor s) (entry s.g)) (at s.z) (at (last_digits s)) i ≡ next_w s i
  unfolding shifted
  w_is =
      let digits = dot_ext n (entry s.g i) (entry s.g i) (at (last_digits s)) (last_digit s) (λ j m. refl) (λ j m. at-flat_vector n (last_digit s) j order m) in
      let sum : dot n (entry s.g i) (at (last_digits s)) ≡ last_sum s i = digits ∙ sym (last_sum_is n s.g (last_digit s) n i l) in
      ap (λ (x : ℤ). pos r *ℤ (at s.z i +ℤ x)) (dot-scale n (pos (state_factor s)) (entry s.g i) (at (last_digits s)) ∙ ap (λ (x : ℤ). pos (state_factor s) *ℤ x) sum)

  digit_is : at (chosen_digits s) i ≡ select s.header.p (state_unit s) (next_w s i)
  unfolding next_digit
  digit_is =
      stepped_digit n r (state_factor s) s.header.p (state_unit s) s.g s.z (last_digits s) i l (omega arith)
      ∙ ap (select s.header.p (state_unit s)) w_is

  residual_is : length s.z ≡ 16
      → at (one_step s).z i ≡ next_w s i -ℤ pos (state_unit s) *ℤ select s.header.p (state_unit s) (next_w s i)
  unfolding one_step next_residual next_digit
  residual_is size =
      stepped_residual n r (state_factor s) s.header.p (state_unit s) s.g s.z (last_digits s) i l (omega arith)
      ∙ ap (λ (w : ℤ). w -ℤ pos (state_unit s) *ℤ select s.header.p (state_unit s) w) w_is

pub next_step_adds : NextStepAdds
unfolding one_step
next_step_adds s order steps size room i l = (
  stored_same s.header.n s.k s.digits (chosen_digits s) i l (omega arith) order ∙ digit_is s order i l,
  residual_is s order i l size,
)
