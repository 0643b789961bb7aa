-- `bitfields::read_window` meets its contract, by the law of a window of bytes.
use native.Mathlib.Omega.{arith}
use Rattle.bitfields.proofs.Spelling.{slice_bytes}
use Rattle.bitfields.proofs.Steps.{window}
use Rattle.bitfields.proofs.read_window.Goals as goal

pub returns : goal.returns
returns c =
    let a = c.args in
    rw (c.pow2.ensures, c.read_bytes.ensures)
    (window a.k a.n a.at a.w (slice_bytes a.s.now c.shared_slice_known-1.given)
    (omega arith) (omega arith) (omega arith))
