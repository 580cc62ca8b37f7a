-- `session::Head::drop` meets its contract. Assumes nothing.
use Rattle.std.proofs.Common.{arith, eq-eqb, ne_eqb}
use Rattle.session.specs.Calls.{drop_call}
use Rattle.session.proofs.Bodies.{lent_made, lent_refused}
use Rattle.session.proofs.Head.drop.Goals as goal

pub returns : goal.returns
returns c =
    let w = c.in-Some.ensures.cases in
    lent_made _ _ (eq-eqb _ _ w.long) _ (omega (arith, c.drop_over.auto.figures, w.long)) drop_call (rw w.same at c.drop_over.ensures)

pub returns-in_default : goal.returns-in_default
returns-in_default c = lent_refused _ _ (ne_eqb _ _ c.in_default.ensures.cases) drop_call c.refused.ensures
