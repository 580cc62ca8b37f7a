-- `lawson_etd::etdrk3_3`: its pass from the question about u3 on. Assumes nothing.
use Rattle.std.proofs.Common.{arith, refl}
use Rattle.matrix.specs.Vector.{zeros}
use Rattle.methods.specs.Numbers.{numbers}
use Rattle.lawson_etd.specs.Stages.{etdrk3_3}
use Rattle.methods.proofs.Made.{taken_is, untaken}
use Rattle.methods.proofs.Lines.{go_on, reported, open_line, last_line, first_part, next_plain, next_part, summed, answered_line, unasked_line, sum_fails, narrowed_fails, stand_none}
use Rattle.lawson_etd.proofs.etdrk3_3.Goals as goal

pub returns-then-r-eq1 : goal.returns-then-r-eq1
unfolding zeros numbers etdrk3_3
returns-then-r-eq1 c =
    go_on _ _ _ _ _ _
    (open_line _ _ _ _ (omega (arith, c.if-r-eq1.true)) c.in_ok-question.ensures)

pub returns-in_err-question : goal.returns-in_err-question
unfolding zeros numbers etdrk3_3
returns-in_err-question c =
    go_on _ _ _ _ _ _
    (unasked_line _ _ _ _ c.in_err-question.ensures (stand_none c.from_residual.ensures))

pub returns-in_err-k : goal.returns-in_err-k
unfolding zeros numbers etdrk3_3
returns-in_err-k c =
    go_on _ _ _ _ _ _
    (answered_line _ _ _ _ _ _ _ c.in_ok-question.ensures (omega (arith, c.if-r-eq1.false, c.requires)) c.shifted_stage-f3.ensures (omega arith)
    (first_part _ _ _ refl (sum_fails _ _ (untaken _ c.in_err-k.ensures) (stand_none c.from_residual-in_err-k.ensures))))

pub returns-in_err-k-2 : goal.returns-in_err-k-2
unfolding zeros numbers etdrk3_3
returns-in_err-k-2 c =
    go_on _ _ _ _ _ _
    (answered_line _ _ _ _ _ _ _ c.in_ok-question.ensures (omega (arith, c.if-r-eq1.false, c.requires)) c.shifted_stage-f3.ensures (omega arith)
    (first_part _ _ _ (taken_is _ _ c.in_ok-k.ensures)
    (next_plain _ _ _ _ refl (sum_fails _ _ (narrowed_fails _ (untaken _ c.in_err-k-2.ensures)) (stand_none c.from_residual-in_err-k-2.ensures)))))

pub returns-in_err-k-3 : goal.returns-in_err-k-3
unfolding zeros numbers etdrk3_3
returns-in_err-k-3 c =
    go_on _ _ _ _ _ _
    (answered_line _ _ _ _ _ _ _ c.in_ok-question.ensures (omega (arith, c.if-r-eq1.false, c.requires)) c.shifted_stage-f3.ensures (omega arith)
    (first_part _ _ _ (taken_is _ _ c.in_ok-k.ensures)
    (next_part _ _ _ _ (taken_is _ _ c.in_ok-k-2.ensures)
    (next_plain _ _ _ _ refl (sum_fails _ _ (narrowed_fails _ (untaken _ c.in_err-k-3.ensures)) (stand_none c.from_residual-in_err-k-3.ensures))))))

pub returns-in_err-k-4 : goal.returns-in_err-k-4
unfolding zeros numbers etdrk3_3
returns-in_err-k-4 c =
    go_on _ _ _ _ _ _
    (answered_line _ _ _ _ _ _ _ c.in_ok-question.ensures (omega (arith, c.if-r-eq1.false, c.requires)) c.shifted_stage-f3.ensures (omega arith)
    (first_part _ _ _ (taken_is _ _ c.in_ok-k.ensures)
    (next_part _ _ _ _ (taken_is _ _ c.in_ok-k-2.ensures)
    (next_part _ _ _ _ (taken_is _ _ c.in_ok-k-3.ensures)
    (next_plain _ _ _ _ refl (sum_fails _ _ (narrowed_fails _ (untaken _ c.in_err-k-4.ensures)) (stand_none c.from_residual-in_err-k-4.ensures)))))))

pub returns-in_err-k-5 : goal.returns-in_err-k-5
unfolding zeros numbers etdrk3_3
returns-in_err-k-5 c =
    go_on _ _ _ _ _ _
    (answered_line _ _ _ _ _ _ _ c.in_ok-question.ensures (omega (arith, c.if-r-eq1.false, c.requires)) c.shifted_stage-f3.ensures (omega arith)
    (first_part _ _ _ (taken_is _ _ c.in_ok-k.ensures)
    (next_part _ _ _ _ (taken_is _ _ c.in_ok-k-2.ensures)
    (next_part _ _ _ _ (taken_is _ _ c.in_ok-k-3.ensures)
    (next_part _ _ _ _ (taken_is _ _ c.in_ok-k-4.ensures)
    (next_plain _ _ _ _ refl (sum_fails _ _ (narrowed_fails _ (untaken _ c.in_err-k-5.ensures)) (stand_none c.from_residual-in_err-k-5.ensures))))))))

pub returns-in_err-k-6 : goal.returns-in_err-k-6
unfolding zeros numbers etdrk3_3
returns-in_err-k-6 c =
    go_on _ _ _ _ _ _
    (answered_line _ _ _ _ _ _ _ c.in_ok-question.ensures (omega (arith, c.if-r-eq1.false, c.requires)) c.shifted_stage-f3.ensures (omega arith)
    (first_part _ _ _ (taken_is _ _ c.in_ok-k.ensures)
    (next_part _ _ _ _ (taken_is _ _ c.in_ok-k-2.ensures)
    (next_part _ _ _ _ (taken_is _ _ c.in_ok-k-3.ensures)
    (next_part _ _ _ _ (taken_is _ _ c.in_ok-k-4.ensures)
    (next_part _ _ _ _ (taken_is _ _ c.in_ok-k-5.ensures)
    (next_plain _ _ _ _ refl (sum_fails _ _ (narrowed_fails _ (untaken _ c.in_err-k-6.ensures)) (stand_none c.from_residual-in_err-k-6.ensures)))))))))

pub returns-in_err-k-7 : goal.returns-in_err-k-7
unfolding zeros numbers etdrk3_3
returns-in_err-k-7 c =
    go_on _ _ _ _ _ _
    (answered_line _ _ _ _ _ _ _ c.in_ok-question.ensures (omega (arith, c.if-r-eq1.false, c.requires)) c.shifted_stage-f3.ensures (omega arith)
    (first_part _ _ _ (taken_is _ _ c.in_ok-k.ensures)
    (next_part _ _ _ _ (taken_is _ _ c.in_ok-k-2.ensures)
    (next_part _ _ _ _ (taken_is _ _ c.in_ok-k-3.ensures)
    (next_part _ _ _ _ (taken_is _ _ c.in_ok-k-4.ensures)
    (next_part _ _ _ _ (taken_is _ _ c.in_ok-k-5.ensures)
    (next_part _ _ _ _ (taken_is _ _ c.in_ok-k-6.ensures)
    (next_plain _ _ _ _ refl (sum_fails _ _ (narrowed_fails _ (untaken _ c.in_err-k-7.ensures)) (stand_none c.from_residual-in_err-k-7.ensures))))))))))

pub returns : goal.returns
unfolding zeros numbers etdrk3_3
returns c =
    go_on _ _ _ _ _ _
    (answered_line _ _ _ _ _ _ _ c.in_ok-question.ensures (omega (arith, c.if-r-eq1.false, c.requires)) c.shifted_stage-f3.ensures (omega arith)
    (first_part _ _ _ (taken_is _ _ c.in_ok-k.ensures)
    (next_part _ _ _ _ (taken_is _ _ c.in_ok-k-2.ensures)
    (next_part _ _ _ _ (taken_is _ _ c.in_ok-k-3.ensures)
    (next_part _ _ _ _ (taken_is _ _ c.in_ok-k-4.ensures)
    (next_part _ _ _ _ (taken_is _ _ c.in_ok-k-5.ensures)
    (next_part _ _ _ _ (taken_is _ _ c.in_ok-k-6.ensures)
    (next_part _ _ _ _ (taken_is _ _ c.in_ok-k-7.ensures)
    (summed _ _
    (reported _ c.joined.ensures
    (last_line _ _ _ c.add.ensures c.ended.ensures)))))))))))
