use mathlib.Core.Path.{◌≡◌, refl, ap, ◌∙◌}
use Prim.Native.Nat.{ℕ, ◌+◌, ◌*◌}
use native.Mathlib.Omega.{arith}
use lib.ListN.{length-set}
use Rattle.bitfields.specs.Layout.{values_from}
use Rattle.bitfields.proofs.Reading.{field_lt}
use Rattle.bitfields.proofs.Steps.{read_numbers_turn, step_eq}
use Rattle.integers.proofs.Machine.{i64_kept}
use Rattle.bitfields.proofs.read_numbers.Goals as goal

pub loop-i-init : goal.loop-i-init
unfolding values_from
loop-i-init c = (omega arith, omega arith, refl, refl)

pub decode-requires : goal.decode-requires
decode-requires c = rw c.read_field.ensures (omega arith, omega arith, field_lt _ _ _)

pub loop-i-preserved : goal.loop-i-preserved
loop-i-preserved c =
    let a = c.args in
    let e : c.loop-i.p ≡ a.at + a.w * c.loop-i.i = c.loop-i.invariant.1 in (
      omega arith,
      ap (λ (p : ℕ). p + a.w) e ∙ step_eq a.at a.w c.loop-i.i,
      rw (i64_kept _ c.decode.type_inv)
          (read_numbers_turn a.out.now c.loop-i.out a.s.now a.at a.w c.loop-i.i c.decode.result (omega arith)
          c.loop-i.invariant.2 (c.decode.ensures ∙ rw (c.read_field.ensures, e))),
      simp length-set c.loop-i.invariant.3,
    )
