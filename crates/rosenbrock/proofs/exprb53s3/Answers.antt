-- `rosenbrock::exprb53s3`: its pass, up to the question about u2. Assumes nothing.
use Rattle.std.proofs.Common.{arith}
use Rattle.methods.specs.Numbers.{numbers}
use Rattle.methods.specs.Schemes.{exprb53s3}
use Rattle.rosenbrock.specs.Stages.{exprb53s3_2, exprb53s3_3}
use Rattle.methods.specs.Pass.{also, ◌>>=◌}
use Rattle.methods.proofs.Made.{taken_is, untaken}
use Rattle.methods.proofs.Lines.{begin, at_once, checked_line, alone, reported, handed_on, wanted_line, both_ask, unasked, untried_line, wanted_fails, stand_none}
use Rattle.rosenbrock.proofs.exprb53s3.Goals as goal

pub returns-in_err-k2 : goal.returns-in_err-k2
unfolding numbers exprb53s3 exprb53s3_2 exprb53s3_3
returns-in_err-k2 c =
    begin _ _ _ _ _
    (untried_line _ _ (untaken _ c.in_err-k2.ensures) (stand_none c.from_residual.ensures))

pub returns-in_err-k3base : goal.returns-in_err-k3base
unfolding numbers exprb53s3 exprb53s3_2 exprb53s3_3
returns-in_err-k3base c =
    begin _ _ _ _ _
    (checked_line _ _ _ (taken_is _ _ c.in_ok-k2.ensures)
    (untried_line _ _ (wanted_fails _ _ (untaken _ c.in_err-k3base.ensures)) (stand_none c.from_residual-in_err-k3base.ensures)))

pub returns : goal.returns
unfolding numbers exprb53s3 exprb53s3_2 exprb53s3_3
returns c =
    begin _ _ _ _ _
    (checked_line _ _ _ (taken_is _ _ c.in_ok-k2.ensures)
    (alone _ _
    (wanted_line 1 1 c.args.r.now.count _ _ _ (taken_is _ _ c.in_ok-k3base.ensures) (λ few. omega arith) (λ x y. unfold ◌>>=◌ also in both_ask (λ r. unasked))
    (reported _ c.joined-tally.ensures
    (at_once _ _ _ c.add-u2.ensures
    (handed_on c.exprb53s3_2.ensures))))))
