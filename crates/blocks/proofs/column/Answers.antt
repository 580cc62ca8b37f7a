-- `blocks::column` meets its contract. Assumes nothing.
use Rattle.std.proofs.Common.{arith}
use Rattle.std.proofs.Math.ListN.{length-set}
use Rattle.matrix.proofs.Vectors.{vec_none, vec_call, vec_end}
use Rattle.blocks.proofs.Columns.{last_upper}
use Rattle.blocks.proofs.column.Goals as goal

pub loop-i-init : goal.loop-i-init
loop-i-init c = (omega arith, vec_none _)

pub loop-i-preserved : goal.loop-i-preserved
loop-i-preserved c = (simp length-set (omega arith), vec_call _ _ _ _ c.loop-i.invariant.1 (omega arith) (last_upper _ _ _ _ _ c.args.s.few.0 (omega arith) c.tail.ensures.0))

pub returns : goal.returns
returns c = vec_end _ _ _ _ c.loop-i.invariant.1 (omega arith)
