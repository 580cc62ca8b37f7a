-- `rosenbrock::exprb32_2`: its pass from the question about u2 on. Assumes nothing.
use Rattle.std.proofs.Common.{arith}
use Rattle.methods.specs.Numbers.{numbers}
use Rattle.rosenbrock.specs.Stages.{exprb32_2}
use Rattle.methods.proofs.Made.{taken_is, untaken}
use Rattle.methods.proofs.Lines.{go_on, at_once, checked_line, reported, open_line, last_line, answered_line, unasked_line, untried_line, stand_none}
use Rattle.rosenbrock.proofs.exprb32_2.Goals as goal

pub returns-then-r-eq0 : goal.returns-then-r-eq0
unfolding numbers exprb32_2
returns-then-r-eq0 c =
    go_on _ _ _ _ _ _
    (open_line _ _ _ _ c.if-r-eq0.true c.in_ok-question.ensures)

pub returns-in_err-question : goal.returns-in_err-question
unfolding numbers exprb32_2
returns-in_err-question c =
    go_on _ _ _ _ _ _
    (unasked_line _ _ _ _ c.in_err-question.ensures (stand_none c.from_residual.ensures))

pub returns-in_err-k13 : goal.returns-in_err-k13
unfolding numbers exprb32_2
returns-in_err-k13 c =
    go_on _ _ _ _ _ _
    (answered_line _ _ _ _ _ _ _ c.in_ok-question.ensures c.if-r-eq0.false c.shifted_stage-f2.ensures (omega arith)
    (untried_line _ _ (untaken _ c.in_err-k13.ensures) (stand_none c.from_residual-in_err-k13.ensures)))

pub returns-in_err-k23 : goal.returns-in_err-k23
unfolding numbers exprb32_2
returns-in_err-k23 c =
    go_on _ _ _ _ _ _
    (answered_line _ _ _ _ _ _ _ c.in_ok-question.ensures c.if-r-eq0.false c.shifted_stage-f2.ensures (omega arith)
    (checked_line _ _ _ (taken_is _ _ c.in_ok-k13.ensures)
    (untried_line _ _ (untaken _ c.in_err-k23.ensures) (stand_none c.from_residual-in_err-k23.ensures))))

pub returns : goal.returns
unfolding numbers exprb32_2
returns c =
    go_on _ _ _ _ _ _
    (answered_line _ _ _ _ _ _ _ c.in_ok-question.ensures c.if-r-eq0.false c.shifted_stage-f2.ensures (omega arith)
    (checked_line _ _ _ (taken_is _ _ c.in_ok-k13.ensures)
    (reported _ c.joined.ensures
    (checked_line _ _ _ (taken_is _ _ c.in_ok-k23.ensures)
    (reported _ c.joined-tally.ensures
    (at_once _ _ _ c.scale-increment.ensures
    (at_once _ _ _ c.axpy-increment.ensures
    (at_once _ _ _ c.axpy-increment-2.ensures
    (at_once _ _ _ c.scale-error.ensures
    (at_once _ _ _ c.axpy-error.ensures
    (last_line _ _ _ c.add.ensures c.ended.ensures)))))))))))
