-- `exp4_epirk::epirk5p_2`: its pass from the question about u2 on. Assumes nothing.
use Rattle.std.proofs.Common.{arith}
use Rattle.methods.specs.Numbers.{numbers}
use Rattle.exp4_epirk.specs.Stages.{epirk5p_2}
use Rattle.methods.proofs.Lines.{go_on, at_once, open_line, answered_line, handed_on, unasked_line, stand_none}
use Rattle.exp4_epirk.proofs.epirk5p_2.Goals as goal

pub returns-then-r-eq1 : goal.returns-then-r-eq1
unfolding numbers epirk5p_2
returns-then-r-eq1 c =
    go_on _ _ _ _ _ _
    (open_line _ _ _ _ (omega (arith, c.if-r-eq1.true)) c.in_ok-question.ensures)

pub returns-in_err-question : goal.returns-in_err-question
unfolding numbers epirk5p_2
returns-in_err-question c =
    go_on _ _ _ _ _ _
    (unasked_line _ _ _ _ c.in_err-question.ensures (stand_none c.from_residual.ensures))

pub returns : goal.returns
unfolding numbers epirk5p_2
returns c =
    go_on _ _ _ _ _ _
    (answered_line _ _ _ _ _ _ _ c.in_ok-question.ensures (omega (arith, c.if-r-eq1.false, c.requires)) c.remainder-r2.ensures (omega arith)
    (at_once _ _ _ c.axpy-dr.ensures
    (at_once _ _ _ c.add.ensures
    (at_once _ _ _ (rw c.divisor.ensures at c.axpy-output.ensures)
    (handed_on (c.epirk5p_end.ensures _ _ _))))))
