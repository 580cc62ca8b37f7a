-- `rosenbrock::exprb32`: its pass, up to the question about u2. Assumes nothing.
use Rattle.std.proofs.Common.{ap, ◌∙◌}
use Rattle.methods.specs.Numbers.{numbers}
use Rattle.methods.specs.Schemes.{exprb32}
use Rattle.rosenbrock.specs.Stages.{exprb32_2}
use Rattle.methods.specs.Vectors.{add}
use Rattle.methods.proofs.Made.{taken_is, untaken}
use Rattle.methods.proofs.Lines.{begin, at_once, checked_line, alone, handed_on, untried_line, stand_none}
use Rattle.rosenbrock.proofs.exprb32.Goals as goal

pub returns-in_err-k1 : goal.returns-in_err-k1
unfolding numbers exprb32 exprb32_2
returns-in_err-k1 c =
    begin _ _ _ _ _
    (untried_line _ _ (untaken _ c.in_err-k1.ensures) (stand_none c.from_residual.ensures))

pub returns : goal.returns
unfolding numbers exprb32 exprb32_2
returns c =
    begin _ _ _ _ _
    (checked_line _ _ _ (taken_is _ _ c.in_ok-k1.ensures)
    (alone _ _
    (at_once _ _ _ (c.add-u2.ensures ∙ ap (add _ _) c.scale.ensures)
    (at_once _ _ _ c.requires
    (handed_on c.exprb32_2.ensures)))))
