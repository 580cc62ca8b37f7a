-- `matrix::kernel::product` meets its contract. Assumes nothing.
use Rattle.matrix.proofs.kernel.product.Goals as goal

pub returns-then-left-eq1 : goal.returns-then-left-eq1
returns-then-left-eq1 c = rw c.if-left-eq1.true c.strip.ensures
