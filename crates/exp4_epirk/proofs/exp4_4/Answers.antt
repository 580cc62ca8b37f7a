-- `exp4_epirk::exp4_4`: its pass from the question about u4 on. Assumes nothing.
use Rattle.std.proofs.Common.{arith, ap, ◌∙◌}
use Rattle.methods.specs.Numbers.{numbers}
use Rattle.exp4_epirk.specs.Stages.{exp4_4}
use Rattle.methods.specs.Vectors.{add}
use Rattle.methods.proofs.Made.{taken_is, untaken}
use Rattle.methods.proofs.Lines.{go_on, at_once, checked_line, reported, open_line, answered_line, handed_on, unasked_line, untried_line, stand_none}
use Rattle.exp4_epirk.proofs.exp4_4.Goals as goal

pub returns-then-r-eq0 : goal.returns-then-r-eq0
unfolding numbers exp4_4
returns-then-r-eq0 c =
    go_on _ _ _ _ _ _
    (open_line _ _ _ _ c.if-r-eq0.true c.in_ok-question.ensures)

pub returns-in_err-question : goal.returns-in_err-question
unfolding numbers exp4_4
returns-in_err-question c =
    go_on _ _ _ _ _ _
    (unasked_line _ _ _ _ c.in_err-question.ensures (stand_none c.from_residual.ensures))

pub returns-in_err-k20 : goal.returns-in_err-k20
unfolding numbers exp4_4
returns-in_err-k20 c =
    go_on _ _ _ _ _ _
    (answered_line _ _ _ _ _ _ _ c.in_ok-question.ensures c.if-r-eq0.false c.remainder-d4.ensures (omega arith)
    (untried_line _ _ (untaken _ c.in_err-k20.ensures) (stand_none c.from_residual-in_err-k20.ensures)))

pub returns-in_err-k21 : goal.returns-in_err-k21
unfolding numbers exp4_4
returns-in_err-k21 c =
    go_on _ _ _ _ _ _
    (answered_line _ _ _ _ _ _ _ c.in_ok-question.ensures c.if-r-eq0.false c.remainder-d4.ensures (omega arith)
    (checked_line _ _ _ (taken_is _ _ c.in_ok-k20.ensures)
    (untried_line _ _ (untaken _ c.in_err-k21.ensures) (stand_none c.from_residual-in_err-k21.ensures))))

pub returns-in_err-k22 : goal.returns-in_err-k22
unfolding numbers exp4_4
returns-in_err-k22 c =
    go_on _ _ _ _ _ _
    (answered_line _ _ _ _ _ _ _ c.in_ok-question.ensures c.if-r-eq0.false c.remainder-d4.ensures (omega arith)
    (checked_line _ _ _ (taken_is _ _ c.in_ok-k20.ensures)
    (checked_line _ _ _ (taken_is _ _ c.in_ok-k21.ensures)
    (untried_line _ _ (untaken _ c.in_err-k22.ensures) (stand_none c.from_residual-in_err-k22.ensures)))))

pub returns : goal.returns
unfolding numbers exp4_4
returns c =
    go_on _ _ _ _ _ _
    (answered_line _ _ _ _ _ _ _ c.in_ok-question.ensures c.if-r-eq0.false c.remainder-d4.ensures (omega arith)
    (checked_line _ _ _ (taken_is _ _ c.in_ok-k20.ensures)
    (reported _ c.joined.ensures
    (checked_line _ _ _ (taken_is _ _ c.in_ok-k21.ensures)
    (reported _ c.joined-2.ensures
    (checked_line _ _ _ (taken_is _ _ c.in_ok-k22.ensures)
    (reported _ c.joined-tally.ensures
    (at_once _ _ _ c.combine3-w7.ensures
    (at_once _ _ _ c.axpy-w7.ensures
    (at_once _ _ _ c.axpy-w7-2.ensures
    (at_once _ _ _ c.axpy-w7-3.ensures
    (at_once _ _ _ (c.add-u7.ensures ∙ ap (add _ _) c.scale.ensures)
    (handed_on c.exp4_7.ensures)))))))))))))
