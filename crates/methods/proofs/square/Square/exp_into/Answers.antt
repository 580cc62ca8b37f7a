-- `methods::Square::exp_into` meets its contract. Assumes nothing.
use Rattle.std.proofs.Common.{◌∙◌}
use Rattle.methods.proofs.Laws.{exp_ok, exp_bad}
use Rattle.methods.proofs.square.Square.exp_into.Goals as goal

pub returns-in_err-reach : goal.returns-in_err-reach
returns-in_err-reach c = c.from_residual.ensures ∙ exp_bad _ _ _ _ _ _ _ _ c.scale_into.ensures (rw c.get-n.ensures.value at c.in_err-reach.ensures)

pub returns : goal.returns
returns c = exp_ok _ _ _ _ _ _ _ _ _ _ _ c.scale_into.ensures (rw c.get-n.ensures.value at c.in_ok-reach.ensures) c.single.ensures (rw c.get-n.ensures.value at c.mat_vec.ensures)
