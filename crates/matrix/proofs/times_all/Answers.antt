-- `matrix::times_all` meets its contract: the first places are multiplied. Assumes nothing.
use Rattle.std.proofs.Common.{arith}
use Rattle.loops.proofs.Loops.{stores_none, stores_step0}
use Rattle.loops.proofs.Stores.{run_all}
use Rattle.matrix.proofs.times_all.Goals as goal

pub loop-x-init : goal.loop-x-init
loop-x-init c = stores_none _ _ _

pub loop-x-preserved : goal.loop-x-preserved
loop-x-preserved c = stores_step0 _ _ _ _ c.loop-x.invariant

pub returns : goal.returns
returns c = run_all _ _ _ _ c.loop-x.invariant (omega arith)
