-- `matrix::copy_all` meets its contract. Assumes nothing.
use Rattle.std.proofs.Common.{◌≡◌, ◌≤◌, ◌∙◌, arith, sym, ap, length, take_all}
use Rattle.loops.specs.Loop.{◌!◌, tab}
use Rattle.loops.proofs.Loops.{stores_none, stores_step0}
use Rattle.loops.proofs.Stores.{run_all, tab_first}
use Rattle.matrix.proofs.copy_all.Goals as goal

pub loop-p-init : goal.loop-p-init
loop-p-init c = stores_none _ _ _

pub loop-p-preserved : goal.loop-p-preserved
loop-p-preserved c = stores_step0 _ _ _ _ c.loop-p.invariant

pub returns : goal.returns
returns c =
    let a = c.args.a.now in
    let n = length c.args.x.now in
    run_all _ _ _ _ c.loop-p.invariant (omega arith) ∙ sym (tab_first a n (omega arith)) ∙ take_all n a (omega arith)
