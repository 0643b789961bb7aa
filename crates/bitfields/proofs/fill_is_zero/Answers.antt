-- `bitfields::fill_is_zero` meets its contract: the bits left over are the low ones of the last byte.
use Rattle.bitfields.proofs.Spelling.{slice_bytes}
use Rattle.bitfields.proofs.Steps.{last-fill}
use Rattle.bitfields.proofs.fill_is_zero.Goals as goal

pub returns : goal.returns
returns c =
    rw (
      c.pow2.ensures,
      c.from.ensures,
      last-fill c.args.b (slice_bytes c.args.s.now c.shared_slice_known-2-1.given) c.requires.0 c.requires.1,
    )
