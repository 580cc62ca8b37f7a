-- `lawson_etd::etdrk4_3`: its pass from the question about u3 on. Assumes nothing.
use Rattle.std.proofs.Common.{arith, ap, ◌∙◌}
use Rattle.methods.specs.Numbers.{numbers}
use Rattle.lawson_etd.specs.Stages.{etdrk4_3}
use Rattle.methods.specs.Vectors.{axpy}
use Rattle.methods.proofs.Made.{taken_is, untaken}
use Rattle.methods.proofs.Lines.{go_on, at_once, over_line, reported, open_line, answered_line, handed_later, unasked_line, untried_line, over_fails, stand_none}
use Rattle.lawson_etd.proofs.etdrk4_3.Goals as goal

pub returns-then-r-eq1 : goal.returns-then-r-eq1
unfolding numbers etdrk4_3
returns-then-r-eq1 c =
    go_on _ _ _ _ _ _
    (open_line _ _ _ _ (omega (arith, c.if-r-eq1.true)) c.in_ok-question.ensures)

pub returns-in_err-question : goal.returns-in_err-question
unfolding numbers etdrk4_3
returns-in_err-question c =
    go_on _ _ _ _ _ _
    (unasked_line _ _ _ _ c.in_err-question.ensures (stand_none c.from_residual.ensures))

pub returns-in_err-phi_term : goal.returns-in_err-phi_term
unfolding numbers etdrk4_3
returns-in_err-phi_term c =
    go_on _ _ _ _ _ _
    (answered_line _ _ _ _ _ _ _ c.in_ok-question.ensures (omega (arith, c.if-r-eq1.false, c.requires)) c.shifted_stage-f3.ensures (omega arith)
    (at_once _ _ _ c.scale.ensures
    (at_once _ _ _ c.axpy.ensures
    (at_once _ _ _ c.axpy-combination.ensures
    (at_once _ _ _ (c.axpy-combination-2.ensures ∙ ap (axpy _ _ _) c.times.ensures)
    (untried_line _ _ (over_fails _ _ (untaken _ c.in_err-phi_term.ensures)) (stand_none c.from_residual-in_err-phi_term.ensures)))))))

pub returns : goal.returns
unfolding numbers etdrk4_3
returns c =
    go_on _ _ _ _ _ _
    (answered_line _ _ _ _ _ _ _ c.in_ok-question.ensures (omega (arith, c.if-r-eq1.false, c.requires)) c.shifted_stage-f3.ensures (omega arith)
    (at_once _ _ _ c.scale.ensures
    (at_once _ _ _ c.axpy.ensures
    (at_once _ _ _ c.axpy-combination.ensures
    (at_once _ _ _ (c.axpy-combination-2.ensures ∙ ap (axpy _ _ _) c.times.ensures)
    (over_line _ _ _ _ _ (taken_is _ _ c.in_ok-phi_term.ensures) c.after-s4.ensures
    (reported _ c.joined.ensures
    (handed_later _ _ c.etdrk4_4.ensures (omega arith) (omega arith)))))))))
