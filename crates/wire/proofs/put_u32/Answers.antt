-- `wire::put_u32` meets its contract. Assumes nothing.
use Rattle.wire.proofs.put_u32.Goals as goal

pub returns : goal.returns
returns g c = rw (← c.u32_bytes.ensures) c.write_all.ensures.bytes
