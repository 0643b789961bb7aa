-- The header's three bytes, and then the numbers.
use Rattle.bitfields.proofs.Spelling.{slice_bytes}
use Rattle.frame.proofs.Writer.{put_both}
use Rattle.frame.proofs.put_frame.Goals as goal

pub returns : goal.returns
returns c =
    let a = c.args in
    put_both a.h a.v.now a.s.now c.requires
    (slice_bytes a.s.now c.slice_known-1.given) c.header_number.ensures c.write_bytes.ensures c.write_numbers.ensures
