use mathlib.Core.Path.{◌≡◌, sym, ap, ◌∙◌}
use Prim.Native.Nat.{◌+◌, ◌<◌}
use native.Mathlib.Omega.{arith}
use lib.IntN.{pos}
use lib.ListN.{replicate}
use Rattle.integers.proofs.Stores.{stores-zero}
use Rattle.job.specs.Header.{count}
use Rattle.job.specs.Kind.{kind_of}
use Rattle.job.specs.Kinds.{kind_named}
use Rattle.job.proofs.Limits.{count_most}
use Rattle.system.specs.System.{right_side_of}
use Rattle.system.proofs.Numbers.{kind_is, right_read, right_place-most}
use Rattle.system.proofs.Arrays.{stores-more, vector_stored}
use Rattle.system.proofs.right_sides.Goals as goal

pub loop-i-init : goal.loop-i-init
loop-i-init c =
    let k : kind_of c.args.h.kind ≡ kind_named c.unwrap-kind.result = kind_is _ c.args.h.kind c.of.ensures c.unwrap-kind.ensures in (
      omega arith,
      c.requires.0.order_least,
      rw k c.right_place-place.ensures,
      rw k c.right_stride-stride.ensures,
      stores-more (replicate 16 (pos 0)) (λ t. t) (right_side_of c.args.h c.args.v.now) 0 (replicate 16 (pos 0)) _ (sym (stores-zero _ _ _))
          (right_read (kind_of c.args.h.kind) c.args.h.n c.args.v.now 0 c.right_place.result c.z-1.given (rw k c.right_place.ensures)),
    )

pub offset_bounds-v-place : goal.offset_bounds-v-place
offset_bounds-v-place c =
    let placed : c.loop-i.place < count c.args.h =
    let st = c in
    rw c.loop-i.invariant.2 (right_place-most st.args.h.kind st.args.h.n c.loop-i.i st.requires.0.kind_most c.loop-i-test.true) in
    let st = c in
    omega (arith, placed, count_most (kind_of st.args.h.kind) st.args.h.n st.requires.0.order_most)

pub bounds-v-place : goal.bounds-v-place
bounds-v-place c =
    let placed : c.loop-i.place < count c.args.h =
    rw c.loop-i.invariant.2 (right_place-most c.args.h.kind c.args.h.n c.loop-i.i c.requires.0.kind_most c.loop-i-test.true) in
    omega (arith, placed, c.requires.1)

pub overflow_add-place : goal.overflow_add-place
overflow_add-place c =
    let placed : c.loop-i.place < count c.args.h =
    let st = c in
    rw c.loop-i.invariant.2 (right_place-most st.args.h.kind st.args.h.n c.loop-i.i st.requires.0.kind_most c.loop-i-test.true) in
    let st = c in
    omega (arith, placed, c.loop-i.invariant.3.small, count_most (kind_of st.args.h.kind) st.args.h.n st.requires.0.order_most)

pub loop-i-preserved : goal.loop-i-preserved
loop-i-preserved c =
    let l = c.loop-i in (
      omega arith,
      omega arith,
      ap (λ p. p + c.right_stride-stride.result) l.invariant.2 ∙ sym (l.invariant.3.next l.i l.invariant.0),
      l.invariant.3,
      stores-more _ (λ t. t) (right_side_of c.args.h c.args.v.now) l.i l.z _ l.invariant.4
          (right_read (kind_of c.args.h.kind) c.args.h.n c.args.v.now l.i l.place c.z-in-loop-i-1.given l.invariant.2),
    )

pub returns : goal.returns
returns c =
    let l = c.loop-i in
    let e : l.i ≡ c.args.h.n = omega arith in
    (rw e at l.invariant.4) ∙ vector_stored c.args.h.n _ c.requires.0.order_most
