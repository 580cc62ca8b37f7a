-- `blocks::last_column` meets its contract. Assumes nothing.
use Rattle.std.proofs.Common.{arith, refl}
use Rattle.std.proofs.Math.ListN.{length-set}
use Rattle.loops.proofs.Loops.{fill_none}
use Rattle.blocks.proofs.Columns.{last_upper, last_lower, next_number, so_many}
use Rattle.blocks.proofs.last_column.Goals as goal

pub loop-i-init : goal.loop-i-init
loop-i-init c = (refl, fill_none _ _)

pub loop-i-preserved : goal.loop-i-preserved
loop-i-preserved c = (simp length-set (omega arith), next_number _ _ _ _ _ c.loop-i.invariant.1 (omega arith) refl (last_upper _ _ _ _ _ c.args.s.few.0 (omega arith) c.tail.ensures.0))

pub loop-d-init : goal.loop-d-init
loop-d-init c = (omega arith, so_many _ _ _ _ _ c.loop-i.invariant.1 (omega arith))

pub loop-d-preserved : goal.loop-d-preserved
loop-d-preserved c = (simp length-set (omega arith), next_number _ _ _ _ _ c.loop-d.invariant.1 (omega arith) (omega arith) (last_lower _ _ _ _ _ (omega arith) c.lower.ensures))

pub returns : goal.returns
returns c = so_many _ _ _ _ _ c.loop-d.invariant.1 (omega arith)
