-- `wire::put_doubles` meets its contract. Assumes nothing.
use Rattle.std.proofs.Common.{arith, take_all}
use Rattle.std.proofs.KnownBytes.{Appends-nil, Appends-trans}
use Rattle.std.specs.Float.Ieee.{nan}
use Rattle.wire.proofs.Doubles.{bytes_more}
use Rattle.wire.proofs.put_doubles.Goals as goal

pub loop-y-init : goal.loop-y-init
loop-y-init g c = Appends-nil _

pub loop-y-preserved : goal.loop-y-preserved
loop-y-preserved g c =
    rw (bytes_more c.args.x.now c.loop-y.y-index nan (omega arith)) (Appends-trans _ _ _ _ _ c.loop-y.invariant c.in_ok-put_f64.ensures)

pub returns : goal.returns
returns g c = rw (take_all c.loop-y.y-index c.args.x.now (omega arith)) at c.loop-y.invariant
