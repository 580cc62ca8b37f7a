-- `methods::Replay::add_term` meets its contract. Assumes nothing.
use Rattle.std.proofs.Common.{◌∙◌}
use Rattle.methods.specs.Tally.{joined}
use Rattle.methods.specs.Phi.{more}
use Rattle.methods.specs.Parts.{narrow, narrowed}
use Rattle.methods.proofs.Made.{taken_is, untaken, is_made, none_made}
use Rattle.methods.proofs.replay.Replay.add_term.Goals as goal

pub returns-in_err-term : goal.returns-in_err-term
unfolding narrowed narrow more joined
returns-in_err-term c = c.from_residual.ensures ∙ none_made _ (untaken _ c.in_err-term.ensures)

pub returns : goal.returns
returns c = is_made _ _ (rw (← (taken_is _ _ c.in_ok-term.ensures)) c.more.ensures)
