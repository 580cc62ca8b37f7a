-- `matrix::largest` meets its contract: the largest magnitude so far is kept. Assumes nothing.
use Rattle.std.proofs.Common.{arith}
use Rattle.float.proofs.Sums.{most_none, most_step, most_end}
use Rattle.matrix.specs.Matrix.{max_abs}
use Rattle.matrix.proofs.largest.Goals as goal

pub loop-x-init : goal.loop-x-init
loop-x-init c = most_none _ _

pub loop-x-preserved : goal.loop-x-preserved
loop-x-preserved c = most_step _ _ _ _ _ _ c.loop-x.invariant c.abs.ensures c.larger-big.ensures

pub returns : goal.returns
unfolding max_abs
returns c = most_end _ _ _ _ _ c.loop-x.invariant (omega arith)
