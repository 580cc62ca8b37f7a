-- `engine::Columns::jacobian_into`: the first i rows are done. Assumes nothing.
use Rattle.std.proofs.Common.{rules, arith, refl}
use Rattle.loops.proofs.Stores.{rows_none}
use Rattle.engine.proofs.Differences.{row_step, rows_end}
use Rattle.engine.proofs.Columns.jacobian_into.Goals as goal

pub loop-i-init : goal.loop-i-init
loop-i-init c = rows_none _ _ _

pub loop-i-preserved : goal.loop-i-preserved
loop-i-preserved c =
    let n = c.get-n.ensures.value in
    row_step _ _ _ _ _ _ _ _ _ _ _ _ c.loop-i-test.true (rw n (omega arith)) refl (omega arith) (search rules) (rw n c.deltas-d.ensures) c.loop-i.invariant c.row.ensures

pub returns : goal.returns
returns c = let n = c.get-n.ensures.value in rows_end _ _ _ _ _ _ _ (rw n at c.loop-i.invariant) (omega arith) (omega arith)
