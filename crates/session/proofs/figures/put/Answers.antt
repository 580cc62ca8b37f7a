-- `session::figures::put` meets its contract. Assumes nothing.
use Rattle.loops.proofs.Loops.{stores_none, stores_step}
use Rattle.session.proofs.figures.put.Goals as goal

pub loop-i-init : goal.loop-i-init
loop-i-init c = stores_none _ _ _

pub loop-i-preserved : goal.loop-i-preserved
loop-i-preserved c = stores_step _ _ _ _ _ c.loop-i.invariant
