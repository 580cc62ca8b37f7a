-- `methods::Square::phi_term` meets its contract. Assumes nothing.
use Rattle.std.proofs.Common.{◌∙◌}
use Rattle.methods.proofs.Made.{taken_is, untaken, is_made, none_made}
use Rattle.methods.specs.Phi.{over, phi_term}
use Rattle.methods.proofs.square.Square.phi_term.Goals as goal

pub returns-in_err-action : goal.returns-in_err-action
unfolding phi_term over
returns-in_err-action c = c.from_residual.ensures ∙ none_made _ (untaken _ c.in_err-action.ensures)

pub returns : goal.returns
unfolding phi_term
returns c = is_made _ _ (rw (← (taken_is _ _ c.in_ok-action.ensures)) c.scaled.ensures)
