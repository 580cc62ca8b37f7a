-- `matrix::add_by` meets its contract: the first p entries of the term are made anew and added. Assumes nothing.
use Rattle.std.proofs.Common.{arith}
use Rattle.loops.proofs.Loops.{stores_none}
use Rattle.matrix.proofs.Series.{term_step, sum_step, mapped}
use Rattle.matrix.proofs.add_by.Goals as goal

pub loop-p-init : goal.loop-p-init
loop-p-init g c = λ f e. (stores_none _ _ _, stores_none _ _ _)

pub loop-p-preserved : goal.loop-p-preserved
loop-p-preserved g c = λ f e.
    let inv = c.loop-p.invariant f e in
    let y = e _ _ c.rule-t.ensures in
    (term_step f _ _ _ _ _ inv.0 inv.1 _ y, sum_step f _ _ _ _ _ inv.0 inv.1 _ y)

pub returns : goal.returns
returns g c f e = let inv = c.loop-p.invariant f e in mapped f _ _ _ _ _ inv.0 inv.1 (omega arith) c.requires.places
