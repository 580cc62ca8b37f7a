-- `blocks::shift_row` meets its contract. Assumes nothing.
use Rattle.std.proofs.Common.{arith}
use Rattle.blocks.proofs.Shifted.{shifted_none, shifted_step, shifted_end}
use Rattle.blocks.proofs.shift_row.Goals as goal

pub loop-d-init : goal.loop-d-init
loop-d-init c = shifted_none _ _ _

pub loop-d-preserved : goal.loop-d-preserved
loop-d-preserved c = shifted_step _ _ _ _ _ (omega arith) c.loop-d.invariant

pub returns : goal.returns
returns c = shifted_end _ _ _ _ _ (omega arith) c.loop-d.invariant
