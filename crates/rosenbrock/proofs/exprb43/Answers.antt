-- `rosenbrock::exprb43`: its pass, up to the question about u2. Assumes nothing.
use Rattle.std.proofs.Common.{arith, ap, ◌∙◌}
use Rattle.methods.specs.Numbers.{numbers}
use Rattle.methods.specs.Schemes.{exprb43}
use Rattle.rosenbrock.specs.Stages.{exprb43_2, exprb43_3}
use Rattle.methods.specs.Vectors.{add}
use Rattle.methods.specs.Pass.{also, ◌>>=◌}
use Rattle.methods.proofs.Made.{taken_is, untaken}
use Rattle.methods.proofs.Lines.{begin, at_once, checked_line, alone, reported, handed_on, wanted_line, both_ask, unasked, untried_line, wanted_fails, stand_none}
use Rattle.rosenbrock.proofs.exprb43.Goals as goal

pub returns-in_err-k1h : goal.returns-in_err-k1h
unfolding numbers exprb43 exprb43_2 exprb43_3
returns-in_err-k1h c =
    begin _ _ _ _ _
    (untried_line _ _ (untaken _ c.in_err-k1h.ensures) (stand_none c.from_residual.ensures))

pub returns-in_err-k11 : goal.returns-in_err-k11
unfolding numbers exprb43 exprb43_2 exprb43_3
returns-in_err-k11 c =
    begin _ _ _ _ _
    (checked_line _ _ _ (taken_is _ _ c.in_ok-k1h.ensures)
    (untried_line _ _ (wanted_fails _ _ (untaken _ c.in_err-k11.ensures)) (stand_none c.from_residual-in_err-k11.ensures)))

pub returns-in_err-k13 : goal.returns-in_err-k13
unfolding numbers exprb43 exprb43_2 exprb43_3
returns-in_err-k13 c =
    begin _ _ _ _ _
    (checked_line _ _ _ (taken_is _ _ c.in_ok-k1h.ensures)
    (wanted_line 2 2 c.args.r.now.count _ _ _ (taken_is _ _ c.in_ok-k11.ensures) (λ few. omega arith) (λ x y. unfold ◌>>=◌ also in both_ask (λ r. both_ask (λ r. unasked)))
    (untried_line _ _ (wanted_fails _ _ (untaken _ c.in_err-k13.ensures)) (stand_none c.from_residual-in_err-k13.ensures))))

pub returns-in_err-k14 : goal.returns-in_err-k14
unfolding numbers exprb43 exprb43_2 exprb43_3
returns-in_err-k14 c =
    begin _ _ _ _ _
    (checked_line _ _ _ (taken_is _ _ c.in_ok-k1h.ensures)
    (wanted_line 2 2 c.args.r.now.count _ _ _ (taken_is _ _ c.in_ok-k11.ensures) (λ few. omega arith) (λ x y. unfold ◌>>=◌ also in both_ask (λ r. both_ask (λ r. unasked)))
    (wanted_line 2 2 c.args.r.now.count _ _ _ (taken_is _ _ c.in_ok-k13.ensures) (λ few. omega arith) (λ x y. unfold ◌>>=◌ also in both_ask (λ r. both_ask (λ r. unasked)))
    (untried_line _ _ (wanted_fails _ _ (untaken _ c.in_err-k14.ensures)) (stand_none c.from_residual-in_err-k14.ensures)))))

pub returns : goal.returns
unfolding numbers exprb43 exprb43_2 exprb43_3
returns c =
    begin _ _ _ _ _
    (checked_line _ _ _ (taken_is _ _ c.in_ok-k1h.ensures)
    (alone _ _
    (wanted_line 2 2 c.args.r.now.count _ _ _ (taken_is _ _ c.in_ok-k11.ensures) (λ few. omega arith) (λ x y. unfold ◌>>=◌ also in both_ask (λ r. both_ask (λ r. unasked)))
    (reported _ c.joined.ensures
    (wanted_line 2 2 c.args.r.now.count _ _ _ (taken_is _ _ c.in_ok-k13.ensures) (λ few. omega arith) (λ x y. unfold ◌>>=◌ also in both_ask (λ r. both_ask (λ r. unasked)))
    (reported _ c.joined-2.ensures
    (wanted_line 2 2 c.args.r.now.count _ _ _ (taken_is _ _ c.in_ok-k14.ensures) (λ few. omega arith) (λ x y. unfold ◌>>=◌ also in both_ask (λ r. both_ask (λ r. unasked)))
    (reported _ c.joined-tally.ensures
    (at_once _ _ _ (c.add-u2.ensures ∙ ap (add _ _) c.scale.ensures)
    (handed_on c.exprb43_2.ensures))))))))))
