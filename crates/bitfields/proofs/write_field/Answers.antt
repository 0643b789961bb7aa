-- `bitfields::write_field` meets its contract, by the law of a field put into place.
use native.Mathlib.Omega.{arith}
use Rattle.bitfields.specs.Layout.{Bytes}
use Rattle.bitfields.proofs.Spelling.{slice_bytes}
use Rattle.bitfields.proofs.Steps.{joined_fits, filled-fits, put-field}
use Rattle.bitfields.proofs.write_field.Goals as goal

pub overflow_mul-x : goal.overflow_mul-x
overflow_mul-x c =
    let bytes : Bytes c.args.s.now =
    slice_bytes _ c.slice_known-1.given in
    let a = c.args in
    rw (c.pow2.ensures, c.from.ensures) (omega (arith, joined_fits a.at a.w bytes c.requires))

pub overflow_add-x : goal.overflow_add-x
overflow_add-x c =
    let bytes : Bytes c.args.s.now =
    slice_bytes _ c.slice_known-1.given in
    let a = c.args in
    rw (c.pow2.ensures, c.from.ensures) (omega (arith, joined_fits a.at a.w bytes c.requires))

pub overflow_mul-x-2 : goal.overflow_mul-x-2
overflow_mul-x-2 c =
    let bytes : Bytes c.args.s.now =
    slice_bytes _ c.slice_known-1.given in
    let a = c.args in
    rw (c.pow2-2.ensures, c.pow2.ensures, c.from.ensures)
    (omega (arith, filled-fits a.at a.w bytes c.requires))

pub returns : goal.returns
returns c =
    let bytes : Bytes c.args.s.now =
    slice_bytes _ c.slice_known-1.given in
    let a = c.args in
    rw (c.write_window.ensures, c.pow2-2.ensures, c.pow2.ensures, c.from.ensures)
    (put-field a.at a.w bytes c.requires)
