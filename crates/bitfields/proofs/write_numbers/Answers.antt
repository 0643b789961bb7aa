use mathlib.Core.Path.{◌≡◌, refl, ap, ◌∙◌}
use Prim.Native.Nat.{ℕ, ◌+◌, ◌*◌, ◌≤◌}
use native.Mathlib.Omega.{arith}
use lib.IntN.{ℤ, pos}
use lib.ListN.{length, get_or}
use lib.Seq.{take-length}
use mir.Syntax.{w64}
use mir.Val.{to_z, of_z}
use Rattle.bitfields.specs.Twos.{Fits}
use Rattle.bitfields.proofs.Spelling.{slice_bytes}
use Rattle.bitfields.proofs.Steps.{so_far, so_far_all, step_eq, step_le, write-numbers_turn}
use Rattle.bitfields.proofs.Twos.{encode_lt, in_word}
use Rattle.integers.proofs.Machine.{i64_kept}
use Rattle.bitfields.proofs.write_numbers.Goals as goal

pub loop-z-init : goal.loop-z-init
unfolding so_far
loop-z-init c = (omega arith, omega arith, refl, refl)

pub write_field-requires : goal.write_field-requires
write_field-requires c =
    let next : ℤ =
    get_or c.args.nums.now c.loop-z.z-index (pos 0) in
    let next_fits : Fits c.args.w next =
    c.requires.5.each_fits c.loop-z.z-index (omega arith) in
    let next-plain : to_z w64 (of_z w64 next) ≡ next =
    i64_kept next (in_word c.requires.3 next_fits) in
    let room : c.args.w * c.loop-z.z-index + c.args.w ≤ c.args.w * length c.args.nums.now =
    step_le c.args.w c.loop-z.z-index (length c.args.nums.now) (omega arith) in
    (omega (arith, room), omega arith, omega arith, rw (c.encode.ensures, next-plain) (encode_lt c.requires.2 next_fits))

pub loop-z-preserved : goal.loop-z-preserved
loop-z-preserved c =
    let next : ℤ =
    get_or c.args.nums.now c.loop-z.z-index (pos 0) in
    let next_fits : Fits c.args.w next =
    c.requires.5.each_fits c.loop-z.z-index (omega arith) in
    let next-plain : to_z w64 (of_z w64 next) ≡ next =
    i64_kept next (in_word c.requires.3 next_fits) in
    let l = c.loop-z in
    let a = c.args in (
      omega arith,
      ap (λ (p : ℕ). p + a.w) l.invariant.1 ∙ step_eq a.at a.w l.z-index,
      c.write_field.ensures
          ∙ write-numbers_turn a.dst.now l.dst a.at a.w a.nums.now l.z-index l.p c.encode.result
          l.invariant.2 l.invariant.1 (c.encode.ensures ∙ rw next-plain)
          (slice_bytes a.dst.now c.slice_known-1.given) c.requires.2 c.requires.5 (omega arith),
      c.write_field.auto.s ∙ l.invariant.3,
    )

pub returns : goal.returns
returns c =
    let a = c.args in
    let e : c.loop-z.z-index ≡ length a.nums.now = omega arith in
    (rw (e, take-length) at c.loop-z.invariant.2) ∙ so_far_all a.dst.now a.at a.w a.nums.now (omega arith)
