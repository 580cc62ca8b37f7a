-- `engine::Columns::row`: the first j entries of the row are done. Assumes nothing.
use Rattle.std.proofs.Common.{arith}
use Rattle.loops.proofs.Loops.{stores_none, stores_step0}
use Rattle.loops.proofs.Stores.{run_all}
use Rattle.engine.proofs.Columns.row.Goals as goal

pub loop-j-init : goal.loop-j-init
loop-j-init c = stores_none _ _ _

pub loop-j-preserved : goal.loop-j-preserved
loop-j-preserved c = stores_step0 _ _ _ _ c.loop-j.invariant

pub returns : goal.returns
returns c = run_all _ _ _ _ c.loop-j.invariant (omega arith)
