-- `rosenbrock::exprb53s3_2`: its pass from the question about u2 on. Assumes nothing.
use Rattle.std.proofs.Common.{arith, refl}
use Rattle.methods.specs.Numbers.{numbers}
use Rattle.rosenbrock.specs.Stages.{exprb53s3_2}
use Rattle.methods.proofs.Made.{taken_is, untaken}
use Rattle.methods.proofs.Lines.{go_on, at_once, reported, open_line, first_part, first-over, next_plain, next_part, summed, answered_line, handed_on, unasked_line, over_fails, sum_fails, narrowed_fails, stand_none}
use Rattle.rosenbrock.proofs.exprb53s3_2.Goals as goal

pub returns-then-r-eq0 : goal.returns-then-r-eq0
unfolding numbers exprb53s3_2
returns-then-r-eq0 c =
    go_on _ _ _ _ _ _
    (open_line _ _ _ _ c.if-r-eq0.true c.in_ok-question.ensures)

pub returns-in_err-question : goal.returns-in_err-question
unfolding numbers exprb53s3_2
returns-in_err-question c =
    go_on _ _ _ _ _ _
    (unasked_line _ _ _ _ c.in_err-question.ensures (stand_none c.from_residual.ensures))

pub returns-in_err-k3 : goal.returns-in_err-k3
unfolding numbers exprb53s3_2
returns-in_err-k3 c =
    go_on _ _ _ _ _ _
    (answered_line _ _ _ _ _ _ _ c.in_ok-question.ensures c.if-r-eq0.false c.remainder-r2.ensures (omega arith)
    (at_once _ _ _ c.add-u3.ensures
    (first_part _ _ _ refl (sum_fails _ _ (over_fails _ _ (untaken _ (rw c.powi3.ensures at c.in_err-k3.ensures))) (stand_none c.from_residual-in_err-k3.ensures)))))

pub returns-in_err-s3 : goal.returns-in_err-s3
unfolding numbers exprb53s3_2
returns-in_err-s3 c =
    go_on _ _ _ _ _ _
    (answered_line _ _ _ _ _ _ _ c.in_ok-question.ensures c.if-r-eq0.false c.remainder-r2.ensures (omega arith)
    (at_once _ _ _ c.add-u3.ensures
    (first-over _ _ _ _ _ (taken_is _ _ (rw c.powi3.ensures at c.in_ok-k3.ensures)) c.after-s3.ensures
    (next_plain _ _ _ _ refl (sum_fails _ _ (narrowed_fails _ (untaken _ (rw c.powi3-cube.ensures at c.in_err-s3.ensures))) (stand_none c.from_residual-in_err-s3.ensures))))))

pub returns : goal.returns
unfolding numbers exprb53s3_2
returns c =
    go_on _ _ _ _ _ _
    (answered_line _ _ _ _ _ _ _ c.in_ok-question.ensures c.if-r-eq0.false c.remainder-r2.ensures (omega arith)
    (at_once _ _ _ c.add-u3.ensures
    (first-over _ _ _ _ _ (taken_is _ _ (rw c.powi3.ensures at c.in_ok-k3.ensures)) c.after-s3.ensures
    (next_part _ _ _ _ (taken_is _ _ (rw c.powi3-cube.ensures at c.in_ok-s3.ensures))
    (summed _ _
    (reported _ c.joined-tally.ensures
    (handed_on c.exprb53s3_3.ensures)))))))
