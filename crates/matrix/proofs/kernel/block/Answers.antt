-- `matrix::kernel::block` meets its contract. Assumes nothing.
use Rattle.std.proofs.Common.{◌≡◌, arith, [], ◌∙◌}
use Rattle.loops.proofs.Loops.{fill_none, fill_call, fill_all, fill_old, length-tab, get_or-tab}
use Rattle.matrix.proofs.Framed.{no_products, next_row}
use Rattle.matrix.proofs.kernel.block.Goals as goal

pub loop-k-init : goal.loop-k-init
loop-k-init g c = no_products _ _ _ _ _ _ _

pub loop-r-init : goal.loop-r-init
loop-r-init g c = rw c.loop-k.invariant (fill_none _ _)

pub loop-r-preserved : goal.loop-r-preserved
loop-r-preserved g c =
    fill_call [] _ _ _ _ _ c.loop-r.invariant (rw length-tab c.loop-r-test.true)
    (next_row _ _ _ _ _ _ _ _ _ _ _ _ _ c.span-start.ensures.0 (omega arith) c.span-place.ensures.0
    (fill_old [] _ _ _ _ c.loop-r.invariant ∙ get_or-tab [] _ _ _ c.loop-r-test.true) c.add_products.ensures)

pub loop-k-preserved : goal.loop-k-preserved
loop-k-preserved g c = rw length-tab at (fill_all _ _ _ _ c.loop-r.invariant (rw length-tab (omega arith)))

pub returns : goal.returns
returns g c = let e : c.loop-k.k ≡ c.args.right.now.rows = omega arith in rw e at c.loop-k.invariant
