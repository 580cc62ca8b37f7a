-- `rosenbrock::exprb43_3`: its pass from the question about u3 on. Assumes nothing.
use Rattle.std.proofs.Common.{arith}
use Rattle.methods.specs.Numbers.{numbers}
use Rattle.rosenbrock.specs.Stages.{exprb43_3}
use Rattle.methods.proofs.Made.{taken_is, untaken}
use Rattle.methods.proofs.Lines.{go_on, at_once, checked_line, reported, open_line, last_line, answered_line, unasked_line, untried_line, stand_none}
use Rattle.rosenbrock.proofs.exprb43_3.Goals as goal

pub returns-then-r-eq1 : goal.returns-then-r-eq1
unfolding numbers exprb43_3
returns-then-r-eq1 c =
    go_on _ _ _ _ _ _
    (open_line _ _ _ _ (omega (arith, c.if-r-eq1.true)) c.in_ok-question.ensures)

pub returns-in_err-question : goal.returns-in_err-question
unfolding numbers exprb43_3
returns-in_err-question c =
    go_on _ _ _ _ _ _
    (unasked_line _ _ _ _ c.in_err-question.ensures (stand_none c.from_residual.ensures))

pub returns-in_err-k33 : goal.returns-in_err-k33
unfolding numbers exprb43_3
returns-in_err-k33 c =
    go_on _ _ _ _ _ _
    (answered_line _ _ _ _ _ _ _ c.in_ok-question.ensures (omega (arith, c.if-r-eq1.false, c.requires)) c.shifted_stage-f3.ensures (omega arith)
    (untried_line _ _ (untaken _ c.in_err-k33.ensures) (stand_none c.from_residual-in_err-k33.ensures)))

pub returns-in_err-k34 : goal.returns-in_err-k34
unfolding numbers exprb43_3
returns-in_err-k34 c =
    go_on _ _ _ _ _ _
    (answered_line _ _ _ _ _ _ _ c.in_ok-question.ensures (omega (arith, c.if-r-eq1.false, c.requires)) c.shifted_stage-f3.ensures (omega arith)
    (checked_line _ _ _ (taken_is _ _ c.in_ok-k33.ensures)
    (untried_line _ _ (untaken _ c.in_err-k34.ensures) (stand_none c.from_residual-in_err-k34.ensures))))

pub returns : goal.returns
unfolding numbers exprb43_3
returns c =
    go_on _ _ _ _ _ _
    (answered_line _ _ _ _ _ _ _ c.in_ok-question.ensures (omega (arith, c.if-r-eq1.false, c.requires)) c.shifted_stage-f3.ensures (omega arith)
    (checked_line _ _ _ (taken_is _ _ c.in_ok-k33.ensures)
    (reported _ c.joined.ensures
    (checked_line _ _ _ (taken_is _ _ c.in_ok-k34.ensures)
    (reported _ c.joined-tally.ensures
    (at_once _ _ _ c.scale-increment.ensures
    (at_once _ _ _ c.axpy-increment.ensures
    (at_once _ _ _ c.axpy-increment-2.ensures
    (at_once _ _ _ c.axpy-increment-3.ensures
    (at_once _ _ _ c.axpy-increment-4.ensures
    (at_once _ _ _ c.axpy-increment-5.ensures
    (at_once _ _ _ c.axpy-increment-6.ensures
    (at_once _ _ _ c.scale-error.ensures
    (at_once _ _ _ c.axpy-error.ensures
    (at_once _ _ _ c.axpy-error-2.ensures
    (last_line _ _ _ c.add.ensures c.ended.ensures))))))))))))))))
