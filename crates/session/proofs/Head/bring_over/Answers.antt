-- `session::Head::bring_over` meets its contract. Assumes nothing.
use Rattle.std.proofs.Common.{refl, sym}
use Rattle.session.specs.Old.{lent_bring_over}
use Rattle.session.proofs.Bodies.{right_long}
use Rattle.session.proofs.Head.bring_over.Goals as goal

pub returns-clause-brought : goal.returns-clause-brought
unfolding lent_bring_over
returns-clause-brought c = let v = c.in_ok-old.ensures.cases in rw v.same at (c.bring_over_figures.ensures c.args.self refl)

pub returns-clause-long : goal.returns-clause-long
returns-clause-long c = let w = c.in_ok-figures.ensures.cases in let v = c.in_ok-old.ensures.cases in sym (right_long _ _ _ _ v.long w.long)

pub returns-in_err-old-clause-brought : goal.returns-in_err-old-clause-brought
unfolding lent_bring_over
returns-in_err-old-clause-brought c = rw c.from_residual.ensures

pub returns-in_err-figures-clause-brought : goal.returns-in_err-figures-clause-brought
unfolding lent_bring_over
returns-in_err-figures-clause-brought c = rw c.from_residual-in_err-figures.ensures
