-- `wire::put_f64` meets its contract. Assumes nothing.
use Rattle.wire.proofs.put_f64.Goals as goal

pub returns : goal.returns
returns g c = rw (← c.f64_bytes.ensures) c.write_all.ensures.bytes
