-- `exp4_epirk::exp4_7`: its pass from the question about u7 on. Assumes nothing.
use Rattle.std.proofs.Common.{arith, ap, ◌∙◌}
use Rattle.matrix.specs.Vector.{zeros}
use Rattle.methods.specs.Numbers.{numbers}
use Rattle.exp4_epirk.specs.Stages.{exp4_7}
use Rattle.methods.specs.Vectors.{add}
use Rattle.methods.proofs.Made.{taken_is, untaken}
use Rattle.methods.proofs.Lines.{go_on, at_once, checked_line, reported, open_line, last_line, answered_line, unasked_line, untried_line, stand_none}
use Rattle.exp4_epirk.proofs.exp4_7.Goals as goal

pub returns-then-r-eq1 : goal.returns-then-r-eq1
unfolding zeros numbers exp4_7
returns-then-r-eq1 c =
    go_on _ _ _ _ _ _
    (open_line _ _ _ _ (omega (arith, c.if-r-eq1.true)) c.in_ok-question.ensures)

pub returns-in_err-question : goal.returns-in_err-question
unfolding zeros numbers exp4_7
returns-in_err-question c =
    go_on _ _ _ _ _ _
    (unasked_line _ _ _ _ c.in_err-question.ensures (stand_none c.from_residual.ensures))

pub returns-in_err-k7 : goal.returns-in_err-k7
unfolding zeros numbers exp4_7
returns-in_err-k7 c =
    go_on _ _ _ _ _ _
    (answered_line _ _ _ _ _ _ _ c.in_ok-question.ensures (omega (arith, c.if-r-eq1.false, c.requires)) c.remainder-d7.ensures (omega arith)
    (untried_line _ _ (untaken _ c.in_err-k7.ensures) (stand_none c.from_residual-in_err-k7.ensures)))

pub returns : goal.returns
unfolding zeros numbers exp4_7
returns c =
    go_on _ _ _ _ _ _
    (answered_line _ _ _ _ _ _ _ c.in_ok-question.ensures (omega (arith, c.if-r-eq1.false, c.requires)) c.remainder-d7.ensures (omega arith)
    (checked_line _ _ _ (taken_is _ _ c.in_ok-k7.ensures)
    (reported _ c.joined.ensures
    (at_once _ _ _ c.axpy-increment.ensures
    (at_once _ _ _ c.axpy-increment-2.ensures
    (at_once _ _ _ c.axpy-increment-3.ensures
    (at_once _ _ _ c.axpy-increment-4.ensures
    (last_line _ _ _ (c.add-x.ensures ∙ ap (add _ _) c.scale.ensures) c.ended.ensures))))))))
