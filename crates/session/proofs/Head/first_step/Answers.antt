-- `session::Head::first_step` meets its contract. Assumes nothing.
use Rattle.std.proofs.Common.{ap, eq-eqb, ne_eqb}
use Rattle.session.specs.declared.Told.{Told}
use Rattle.session.specs.Lent.{lent_ask}
use Rattle.session.proofs.Head.first_step.Goals as goal

pub returns : goal.returns
unfolding lent_ask
returns c = let w = c.in-Some.ensures.cases in rw (eq-eqb _ _ w.long, ← w.same) (ap (λ (t : Told). t.answer) c.first_step_over.ensures)

pub returns-in_default : goal.returns-in_default
unfolding lent_ask
returns-in_default c = rw (ne_eqb _ _ c.in_default.ensures.cases)
