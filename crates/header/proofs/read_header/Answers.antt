-- Six fields of the three bytes.
use native.Mathlib.Omega.{arith}
use Rattle.bitfields.proofs.Spelling.{slice_bytes}
use Rattle.header.proofs.Header.{header_read}
use Rattle.header.proofs.read_header.Goals as goal

pub returns : goal.returns
returns c = header_read (slice_bytes c.args.s.now c.shared_slice_known-1.given) (omega arith) c.read_bytes-x.ensures
