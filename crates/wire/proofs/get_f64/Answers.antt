-- `wire::get_f64` meets its contract. Assumes nothing.
use Rattle.std.proofs.Common.{◌≡◌, arith, ap, ◌∙◌}
use Rattle.std.specs.Float.{binary64}
use Rattle.std.specs.Float.Ieee.{of_bits}
use Rattle.wire.specs.Wire.{word16, word32, word64}
use Rattle.wire.proofs.get_f64.Goals as goal

pub returns : goal.returns
unfolding word16 word32 word64
returns g c =
    let pattern : c.from_le_bytes.result ≡ word64 c.read_exact.new.buf 0 = omega arith in
    (c.read_exact.new.buf, c.read_exact.auto.buf, c.in_ok-read_exact.ensures.bytes, c.f64_from_bits_with_nan.ensures ∙ ap (of_bits binary64) pattern)
