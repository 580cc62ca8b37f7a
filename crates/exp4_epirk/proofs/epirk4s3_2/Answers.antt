-- `exp4_epirk::epirk4s3_2`: its pass from the question about u2 on. Assumes nothing.
use Rattle.std.proofs.Common.{arith}
use Rattle.methods.specs.Numbers.{numbers}
use Rattle.exp4_epirk.specs.Stages.{epirk4s3_2}
use Rattle.methods.proofs.Lines.{go_on, open_line, answered_line, handed_on, unasked_line, stand_none}
use Rattle.exp4_epirk.proofs.epirk4s3_2.Goals as goal

pub returns-then-r-eq0 : goal.returns-then-r-eq0
unfolding numbers epirk4s3_2
returns-then-r-eq0 c =
    go_on _ _ _ _ _ _
    (open_line _ _ _ _ c.if-r-eq0.true c.in_ok-question.ensures)

pub returns-in_err-question : goal.returns-in_err-question
unfolding numbers epirk4s3_2
returns-in_err-question c =
    go_on _ _ _ _ _ _
    (unasked_line _ _ _ _ c.in_err-question.ensures (stand_none c.from_residual.ensures))

pub returns : goal.returns
unfolding numbers epirk4s3_2
returns c =
    go_on _ _ _ _ _ _
    (answered_line _ _ _ _ _ _ _ c.in_ok-question.ensures c.if-r-eq0.false c.remainder-r2.ensures (omega arith)
    (handed_on c.epirk4s3_3.ensures))
