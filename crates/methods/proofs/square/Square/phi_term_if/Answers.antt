-- `methods::Square::phi_term_if`: the term, or the report of its action. Assumes nothing.
use Rattle.methods.proofs.Augmented.{wanted_is, term_report}
use Rattle.methods.proofs.square.Square.phi_term_if.Goals as goal

pub returns-then-wanted : goal.returns-then-wanted
returns-then-wanted c = wanted_is _ _ _ c.if-wanted.true c.phi_term.ensures

pub returns : goal.returns
returns c = term_report _ _ _ _ _ _ _ _ c.if-wanted.false c.phi_if.ensures
