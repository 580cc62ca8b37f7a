-- `blocks::add_along` meets its contract. Assumes nothing.
use Rattle.std.proofs.Common.{arith}
use Rattle.loops.proofs.Loops.{stores_none, stores_step0}
use Rattle.loops.proofs.Stores.{run_all}
use Rattle.blocks.proofs.add_along.Goals as goal

pub loop-d-init : goal.loop-d-init
loop-d-init c = stores_none _ _ _

pub loop-d-preserved : goal.loop-d-preserved
loop-d-preserved c = rw c.dot_along.ensures (stores_step0 _ _ _ _ c.loop-d.invariant)

pub returns : goal.returns
returns c = run_all _ _ _ _ c.loop-d.invariant (omega arith)
