-- `wire::get_u16` meets its contract. Assumes nothing.
use Rattle.std.proofs.Common.{arith}
use Rattle.wire.specs.Wire.{word16}
use Rattle.wire.proofs.get_u16.Goals as goal

pub returns : goal.returns
unfolding word16
returns g c = (c.read_exact.new.buf, c.read_exact.auto.buf, c.in_ok-read_exact.ensures.bytes, omega arith)
