-- `wire::f64_bytes` meets its contract. Assumes nothing.
use Rattle.wire.proofs.f64_bytes.Goals as goal

pub returns : goal.returns
returns c = rw (← c.f64_to_bits_with_nan.ensures) c.u64_bytes.ensures
