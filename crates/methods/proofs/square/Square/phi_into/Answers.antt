-- `methods::Square::phi_into` meets its contract. Assumes nothing.
use Rattle.std.proofs.Common.{length, ap, ◌∙◌}
use Rattle.loops.proofs.Places.{length-mat}
use Rattle.methods.proofs.Laws.{phi_ok, phi_bad}
use Rattle.methods.proofs.square.Square.phi_into.Goals as goal

pub matrix_exp-requires-clause-m_len : goal.matrix_exp-requires-clause-m_len
matrix_exp-requires-clause-m_len c = (ap length c.augment.ensures ∙ length-mat _ _, c.requires.e_len)

pub returns-in_err-reach : goal.returns-in_err-reach
returns-in_err-reach c = c.from_residual.ensures ∙ phi_bad _ _ _ _ _ _ _ _ _ _ c.augment.ensures c.in_err-reach.ensures

pub returns : goal.returns
returns c = phi_ok _ _ _ _ _ _ _ _ _ _ _ _ _ c.augment.ensures c.in_ok-reach.ensures c.single.ensures c.column_of.ensures
