-- `wire::set_doubles` meets its contract. Assumes nothing.
use Rattle.std.proofs.Common.{◌+◌, ◌*◌, ◌-◌, arith}
use Rattle.wire.proofs.Doubles.{doubles_set}
use Rattle.wire.proofs.set_doubles.Goals as goal

pub loop-k-preserved : goal.loop-k-preserved
loop-k-preserved c =
    doubles_set c.args.x.now c.loop-k.k (8 * c.loop-k.k + 8 - 8 * c.loop-k.k) c.loop-k.b c.args.b.now c.copy_from_slice.new.self (omega arith) (omega arith) c.loop-k.invariant
    (cc)
