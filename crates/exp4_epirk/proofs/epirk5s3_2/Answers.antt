-- `exp4_epirk::epirk5s3_2`: its pass from the question about u2 on. Assumes nothing.
use Rattle.std.proofs.Common.{arith, refl}
use Rattle.methods.specs.Numbers.{numbers}
use Rattle.exp4_epirk.specs.Stages.{epirk5s3_2}
use Rattle.methods.proofs.Made.{taken_is, untaken}
use Rattle.methods.proofs.Lines.{go_on, at_once, reported, open_line, first_part, next_plain, next_part, part_now, summed, answered_line, handed_on, unasked_line, sum_fails, narrowed_fails, stand_none}
use Rattle.exp4_epirk.proofs.epirk5s3_2.Goals as goal

pub returns-then-r-eq0 : goal.returns-then-r-eq0
unfolding numbers epirk5s3_2
returns-then-r-eq0 c =
    go_on _ _ _ _ _ _
    (open_line _ _ _ _ c.if-r-eq0.true c.in_ok-question.ensures)

pub returns-in_err-question : goal.returns-in_err-question
unfolding numbers epirk5s3_2
returns-in_err-question c =
    go_on _ _ _ _ _ _
    (unasked_line _ _ _ _ c.in_err-question.ensures (stand_none c.from_residual.ensures))

pub returns-in_err-k3 : goal.returns-in_err-k3
unfolding numbers epirk5s3_2
returns-in_err-k3 c =
    go_on _ _ _ _ _ _
    (answered_line _ _ _ _ _ _ _ c.in_ok-question.ensures c.if-r-eq0.false c.remainder-r2.ensures (omega arith)
    (first_part _ _ _ refl (sum_fails _ _ (untaken _ c.in_err-k3.ensures) (stand_none c.from_residual-in_err-k3.ensures))))

pub returns-in_err-k3-2 : goal.returns-in_err-k3-2
unfolding numbers epirk5s3_2
returns-in_err-k3-2 c =
    go_on _ _ _ _ _ _
    (answered_line _ _ _ _ _ _ _ c.in_ok-question.ensures c.if-r-eq0.false c.remainder-r2.ensures (omega arith)
    (first_part _ _ _ (taken_is _ _ c.in_ok-k3.ensures)
    (next_plain _ _ _ _ refl (sum_fails _ _ (narrowed_fails _ (untaken _ (rw c.powi2.ensures at c.in_err-k3-2.ensures))) (stand_none c.from_residual-in_err-k3-2.ensures)))))

pub returns-in_err-k3-3 : goal.returns-in_err-k3-3
unfolding numbers epirk5s3_2
returns-in_err-k3-3 c =
    go_on _ _ _ _ _ _
    (answered_line _ _ _ _ _ _ _ c.in_ok-question.ensures c.if-r-eq0.false c.remainder-r2.ensures (omega arith)
    (first_part _ _ _ (taken_is _ _ c.in_ok-k3.ensures)
    (next_part _ _ _ _ (taken_is _ _ (rw c.powi2.ensures at c.in_ok-k3-2.ensures))
    (part_now _ _ _ c.combine2-b3.ensures
    (next_plain _ _ _ _ refl (sum_fails _ _ (narrowed_fails _ (untaken _ (rw c.powi3.ensures at c.in_err-k3-3.ensures))) (stand_none c.from_residual-in_err-k3-3.ensures)))))))

pub returns : goal.returns
unfolding numbers epirk5s3_2
returns c =
    go_on _ _ _ _ _ _
    (answered_line _ _ _ _ _ _ _ c.in_ok-question.ensures c.if-r-eq0.false c.remainder-r2.ensures (omega arith)
    (first_part _ _ _ (taken_is _ _ c.in_ok-k3.ensures)
    (next_part _ _ _ _ (taken_is _ _ (rw c.powi2.ensures at c.in_ok-k3-2.ensures))
    (part_now _ _ _ c.combine2-b3.ensures
    (next_part _ _ _ _ (taken_is _ _ (rw c.powi3.ensures at c.in_ok-k3-3.ensures))
    (summed _ _
    (reported _ c.joined-tally.ensures
    (at_once _ _ _ c.add-u3.ensures
    (handed_on c.epirk5s3_3.ensures)))))))))
