-- `wire::u64_bytes` meets its contract. Assumes nothing.
use Rattle.wire.proofs.Bytes.{bytes_of_u64}
use Rattle.wire.proofs.u64_bytes.Goals as goal

pub returns : goal.returns
returns c = rw (← bytes_of_u64 c.args.x) c.to_le_bytes.ensures
