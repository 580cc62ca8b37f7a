-- `float::pack` meets its contract. Assumes nothing.
use Rattle.float.proofs.Bits.{reads_packed, packed_no_nan}
use Rattle.float.proofs.pack.Goals as goal

pub float_from_bits-result : goal.float_from_bits-result
float_from_bits-result c = packed_no_nan c.args.q c.args.k c.requires.1 c.requires.2

pub returns : goal.returns
returns c = reads_packed c.args.q c.args.k c.requires.0 c.requires.1 c.requires.2
