-- `rosenbrock::exprb43_2`: its pass from the question about u2 on. Assumes nothing.
use Rattle.std.proofs.Common.{arith, ap, ◌∙◌}
use Rattle.methods.specs.Numbers.{numbers}
use Rattle.rosenbrock.specs.Stages.{exprb43_2, exprb43_3}
use Rattle.methods.specs.Vectors.{add}
use Rattle.methods.specs.Pass.{also, ◌>>=◌}
use Rattle.methods.proofs.Made.{taken_is, untaken}
use Rattle.methods.proofs.Lines.{go_on, at_once, checked_line, reported, open_line, answered_line, handed_on, wanted_line, both_ask, unasked, unasked_line, untried_line, wanted_fails, stand_none}
use Rattle.rosenbrock.proofs.exprb43_2.Goals as goal

pub returns-then-r-eq0 : goal.returns-then-r-eq0
unfolding numbers exprb43_2 exprb43_3
returns-then-r-eq0 c =
    go_on _ _ _ _ _ _
    (open_line _ _ _ _ c.if-r-eq0.true c.in_ok-question.ensures)

pub returns-in_err-question : goal.returns-in_err-question
unfolding numbers exprb43_2 exprb43_3
returns-in_err-question c =
    go_on _ _ _ _ _ _
    (unasked_line _ _ _ _ c.in_err-question.ensures (stand_none c.from_residual.ensures))

pub returns-in_err-k21 : goal.returns-in_err-k21
unfolding numbers exprb43_2 exprb43_3
returns-in_err-k21 c =
    go_on _ _ _ _ _ _
    (answered_line _ _ _ _ _ _ _ c.in_ok-question.ensures c.if-r-eq0.false c.shifted_stage-f2.ensures (omega arith)
    (untried_line _ _ (untaken _ c.in_err-k21.ensures) (stand_none c.from_residual-in_err-k21.ensures)))

pub returns-in_err-k23 : goal.returns-in_err-k23
unfolding numbers exprb43_2 exprb43_3
returns-in_err-k23 c =
    go_on _ _ _ _ _ _
    (answered_line _ _ _ _ _ _ _ c.in_ok-question.ensures c.if-r-eq0.false c.shifted_stage-f2.ensures (omega arith)
    (checked_line _ _ _ (taken_is _ _ c.in_ok-k21.ensures)
    (untried_line _ _ (wanted_fails _ _ (untaken _ c.in_err-k23.ensures)) (stand_none c.from_residual-in_err-k23.ensures))))

pub returns-in_err-k24 : goal.returns-in_err-k24
unfolding numbers exprb43_2 exprb43_3
returns-in_err-k24 c =
    go_on _ _ _ _ _ _
    (answered_line _ _ _ _ _ _ _ c.in_ok-question.ensures c.if-r-eq0.false c.shifted_stage-f2.ensures (omega arith)
    (checked_line _ _ _ (taken_is _ _ c.in_ok-k21.ensures)
    (wanted_line 1 2 c.args.r.now.count _ _ _ (taken_is _ _ c.in_ok-k23.ensures) (λ few. omega arith) (λ x y. unfold ◌>>=◌ also in both_ask (λ r. unasked))
    (untried_line _ _ (wanted_fails _ _ (untaken _ c.in_err-k24.ensures)) (stand_none c.from_residual-in_err-k24.ensures)))))

pub returns : goal.returns
unfolding numbers exprb43_2 exprb43_3
returns c =
    go_on _ _ _ _ _ _
    (answered_line _ _ _ _ _ _ _ c.in_ok-question.ensures c.if-r-eq0.false c.shifted_stage-f2.ensures (omega arith)
    (checked_line _ _ _ (taken_is _ _ c.in_ok-k21.ensures)
    (reported _ c.joined.ensures
    (wanted_line 1 2 c.args.r.now.count _ _ _ (taken_is _ _ c.in_ok-k23.ensures) (λ few. omega arith) (λ x y. unfold ◌>>=◌ also in both_ask (λ r. unasked))
    (reported _ c.joined-2.ensures
    (wanted_line 1 2 c.args.r.now.count _ _ _ (taken_is _ _ c.in_ok-k24.ensures) (λ few. omega arith) (λ x y. unfold ◌>>=◌ also in both_ask (λ r. unasked))
    (reported _ c.joined-tally.ensures
    (at_once _ _ _ (c.add-u3.ensures ∙ ap (add _ _) c.scale.ensures)
    (handed_on c.exprb43_3.ensures)))))))))
