-- `session::Head::accept` meets its contract. Assumes nothing.
use Rattle.std.proofs.Common.{arith, ◌≡◌, length}
use Rattle.session.specs.Figures.{FIGURES}
use Rattle.session.proofs.Bodies.{lent_made, lent_refused, right_long, first_wrong, then_wrong}
use Rattle.session.proofs.Head.accept.Goals as goal

pub returns : goal.returns
returns c =
    let w = c.in-Some-as_mut_array.ensures.cases in
    let v = c.in-Some.ensures.cases in
    let right = right_long _ _ _ _ w.long v.long in
    let long : length c.accept_over.new.figures ≡ FIGURES = omega (arith, c.accept_over.auto.figures, w.long) in
    lent_made _ _ right _ long _ (rw (w.same, v.same) at c.accept_over.ensures)

pub returns-in_default : goal.returns-in_default
returns-in_default c = lent_refused _ _ (then_wrong _ _ _ c.in_default.ensures.cases) _ c.refused.ensures

pub returns-in_default-as_mut_array : goal.returns-in_default-as_mut_array
returns-in_default-as_mut_array c = lent_refused _ _ (first_wrong _ _ _ c.in_default-as_mut_array.ensures.cases) _ c.refused-in_default-as_mut_array.ensures
