-- `matrix::kernel::put_row` meets its contract. Assumes nothing.
use Rattle.std.proofs.Common.{refl, sym, ◌∙◌, arith}
use Rattle.loops.proofs.Loops.{stores_none, stores_step0}
use Rattle.loops.proofs.Stores.{run_all, is_tab}
use Rattle.matrix.proofs.kernel.put_row.Goals as goal

pub loop-j-init : goal.loop-j-init
loop-j-init g c = stores_none _ _ _

pub loop-j-preserved : goal.loop-j-preserved
loop-j-preserved g c = stores_step0 _ _ _ _ c.loop-j.invariant

pub returns : goal.returns
returns g c = run_all _ _ _ _ c.loop-j.invariant (omega arith) ∙ sym (is_tab _ _ _ (c.told-row ∙ sym c.requires) (λ p q. refl))
