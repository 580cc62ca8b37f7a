-- `lawson_etd::etdrk2_2`: its pass from the question about u2 on. Assumes nothing.
use Rattle.std.proofs.Common.{arith, refl, ap, ◌∙◌}
use Rattle.matrix.specs.Vector.{zeros}
use Rattle.methods.specs.Numbers.{numbers}
use Rattle.lawson_etd.specs.Stages.{etdrk2_2}
use Rattle.methods.specs.Vectors.{subtract}
use Rattle.methods.proofs.Made.{taken_is, untaken}
use Rattle.methods.proofs.Lines.{go_on, at_once, over_line, reported, open_line, last_line, answered_line, unasked_line, untried_line, over_fails, stand_none}
use Rattle.lawson_etd.proofs.etdrk2_2.Goals as goal

pub returns-then-r-eq0 : goal.returns-then-r-eq0
unfolding zeros numbers etdrk2_2
returns-then-r-eq0 c =
    go_on _ _ _ _ _ _
    (open_line _ _ _ _ c.if-r-eq0.true c.in_ok-question.ensures)

pub returns-in_err-question : goal.returns-in_err-question
unfolding zeros numbers etdrk2_2
returns-in_err-question c =
    go_on _ _ _ _ _ _
    (unasked_line _ _ _ _ c.in_err-question.ensures (stand_none c.from_residual.ensures))

pub returns-in_err-phi_term : goal.returns-in_err-phi_term
unfolding zeros numbers etdrk2_2
returns-in_err-phi_term c =
    go_on _ _ _ _ _ _
    (answered_line _ _ _ _ _ _ _ c.in_ok-question.ensures c.if-r-eq0.false c.evaluated-f2.ensures (omega arith)
    (at_once _ _ _ (c.subtract-g2.ensures ∙ ap (subtract _ _) c.times.ensures)
    (at_once _ _ _ c.subtract-difference.ensures
    (untried_line _ _ (over_fails _ _ (untaken _ c.in_err-phi_term.ensures)) (stand_none c.from_residual-in_err-phi_term.ensures)))))

pub returns : goal.returns
unfolding zeros numbers etdrk2_2
returns c =
    go_on _ _ _ _ _ _
    (answered_line _ _ _ _ _ _ _ c.in_ok-question.ensures c.if-r-eq0.false c.evaluated-f2.ensures (omega arith)
    (at_once _ _ _ (c.subtract-g2.ensures ∙ ap (subtract _ _) c.times.ensures)
    (at_once _ _ _ c.subtract-difference.ensures
    (over_line _ _ _ _ _ (taken_is _ _ c.in_ok-phi_term.ensures) c.added-s.ensures
    (reported _ c.joined.ensures
    (last_line _ _ _ refl c.ended.ensures))))))
