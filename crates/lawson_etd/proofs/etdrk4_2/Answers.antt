-- `lawson_etd::etdrk4_2`: its pass from the question about u2 on. Assumes nothing.
use Rattle.std.proofs.Common.{arith}
use Rattle.methods.specs.Numbers.{numbers}
use Rattle.lawson_etd.specs.Stages.{etdrk4_2}
use Rattle.methods.proofs.Made.{taken_is, untaken}
use Rattle.methods.proofs.Lines.{go_on, over_line, reported, open_line, answered_line, handed_on, unasked_line, untried_line, over_fails, stand_none}
use Rattle.lawson_etd.proofs.etdrk4_2.Goals as goal

pub returns-then-r-eq0 : goal.returns-then-r-eq0
unfolding numbers etdrk4_2
returns-then-r-eq0 c =
    go_on _ _ _ _ _ _
    (open_line _ _ _ _ c.if-r-eq0.true c.in_ok-question.ensures)

pub returns-in_err-question : goal.returns-in_err-question
unfolding numbers etdrk4_2
returns-in_err-question c =
    go_on _ _ _ _ _ _
    (unasked_line _ _ _ _ c.in_err-question.ensures (stand_none c.from_residual.ensures))

pub returns-in_err-phi_term : goal.returns-in_err-phi_term
unfolding numbers etdrk4_2
returns-in_err-phi_term c =
    go_on _ _ _ _ _ _
    (answered_line _ _ _ _ _ _ _ c.in_ok-question.ensures c.if-r-eq0.false c.shifted_stage-f2.ensures (omega arith)
    (untried_line _ _ (over_fails _ _ (untaken _ c.in_err-phi_term.ensures)) (stand_none c.from_residual-in_err-phi_term.ensures)))

pub returns : goal.returns
unfolding numbers etdrk4_2
returns c =
    go_on _ _ _ _ _ _
    (answered_line _ _ _ _ _ _ _ c.in_ok-question.ensures c.if-r-eq0.false c.shifted_stage-f2.ensures (omega arith)
    (over_line _ _ _ _ _ (taken_is _ _ c.in_ok-phi_term.ensures) c.added-s3.ensures
    (reported _ c.joined.ensures
    (handed_on c.etdrk4_3.ensures))))
