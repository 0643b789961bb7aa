-- Every number on the way is small, by the limits, and one division after the other is one by the product.
use mathlib.Core.Path.{refl, ◌∙◌}
use native.Mathlib.Nat.{lt_of_le_of_lt}
use native.Mathlib.Omega.{arith}
use mir.Syntax.{w64}
use mir.Facts.{to_z-of_z}
use Rattle.system.proofs.Light.{Sizes, sizes, dividend_most, one_by_one}
use Rattle.system.proofs.largest_light.Goals as goal

pub overflow_sub-p : goal.overflow_sub-p
overflow_sub-p c =
    let sized : Sizes c.pow2-r.result c.args.h.p c.pow2.result =
    rw (c.pow2-r.ensures, c.pow2.ensures) (sizes c.requires) in
    sized.r_p

pub overflow_mul-pow2 : goal.overflow_mul-pow2
overflow_mul-pow2 c =
    let sized : Sizes c.pow2-r.result c.args.h.p c.pow2.result =
    rw (c.pow2-r.ensures, c.pow2.ensures) (sizes c.requires) in
    record { fits = lt_of_le_of_lt (dividend_most _ _ _ sized) (omega arith) }

pub nonzero_div-pow2-3 : goal.nonzero_div-pow2-3
nonzero_div-pow2-3 c =
    let sized : Sizes c.pow2-r.result c.args.h.p c.pow2.result =
    rw (c.pow2-r.ensures, c.pow2.ensures) (sizes c.requires) in
    omega (arith, sized.p_least)

pub returns : goal.returns
returns c =
    let sized : Sizes c.pow2-r.result c.args.h.p c.pow2.result =
    rw (c.pow2-r.ensures, c.pow2.ensures) (sizes c.requires) in
    to_z-of_z {w = w64} (record { sfits = c.to_signed.type_inv }) ∙ c.to_signed.ensures ∙ rw (one_by_one _ _ _ sized, c.pow2-r.ensures, c.pow2.ensures) refl
