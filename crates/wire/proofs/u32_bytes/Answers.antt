-- `wire::u32_bytes` meets its contract. Assumes nothing.
use Rattle.wire.proofs.Bytes.{bytes_of_u32}
use Rattle.wire.proofs.u32_bytes.Goals as goal

pub returns : goal.returns
returns c = rw (← bytes_of_u32 c.args.x) c.to_le_bytes.ensures
