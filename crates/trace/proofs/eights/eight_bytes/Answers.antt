-- `trace::eight_bytes` meets its contract. Assumes nothing.
use Rattle.trace.proofs.Bytes.{signed_bytewise}
use Rattle.trace.proofs.eights.eight_bytes.Goals as goal

pub returns : goal.returns
returns c = signed_bytewise c.args.u c.requires
