-- `exp4_epirk::epirk5p_1`: its pass from the question about u1 on. Assumes nothing.
use Rattle.std.proofs.Common.{arith}
use Rattle.methods.specs.Numbers.{numbers}
use Rattle.exp4_epirk.specs.Stages.{epirk5p_1}
use Rattle.methods.proofs.Made.{taken_is, untaken}
use Rattle.methods.proofs.Lines.{go_on, at_once, checked_line, reported, open_line, answered_line, handed_on, unasked_line, untried_line, stand_none}
use Rattle.exp4_epirk.proofs.epirk5p_1.Goals as goal

pub returns-then-r-eq0 : goal.returns-then-r-eq0
unfolding numbers epirk5p_1
returns-then-r-eq0 c =
    go_on _ _ _ _ _ _
    (open_line _ _ _ _ c.if-r-eq0.true c.in_ok-question.ensures)

pub returns-in_err-question : goal.returns-in_err-question
unfolding numbers epirk5p_1
returns-in_err-question c =
    go_on _ _ _ _ _ _
    (unasked_line _ _ _ _ c.in_err-question.ensures (stand_none c.from_residual.ensures))

pub returns-in_err-k2 : goal.returns-in_err-k2
unfolding numbers epirk5p_1
returns-in_err-k2 c =
    go_on _ _ _ _ _ _
    (answered_line _ _ _ _ _ _ _ c.in_ok-question.ensures c.if-r-eq0.false c.remainder-r1.ensures (omega arith)
    (untried_line _ _ (untaken _ (rw c.powi-power.ensures at c.in_err-k2.ensures)) (stand_none c.from_residual-in_err-k2.ensures)))

pub returns : goal.returns
unfolding numbers epirk5p_1
returns c =
    go_on _ _ _ _ _ _
    (answered_line _ _ _ _ _ _ _ c.in_ok-question.ensures c.if-r-eq0.false c.remainder-r1.ensures (omega arith)
    (checked_line _ _ _ (taken_is _ _ (rw c.powi-power.ensures at c.in_ok-k2.ensures))
    (reported _ c.joined-tally.ensures
    (at_once _ _ _ c.add.ensures
    (at_once _ _ _ (rw c.divisor.ensures at c.axpy-u2.ensures)
    (handed_on c.epirk5p_2.ensures))))))
