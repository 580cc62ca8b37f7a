-- `lawson_etd::hoch_ost4_5`: its pass from the question about u5 on. Assumes nothing.
use Rattle.std.proofs.Common.{arith, refl, ap, ◌∙◌}
use Rattle.matrix.specs.Vector.{zeros}
use Rattle.methods.specs.Numbers.{numbers}
use Rattle.lawson_etd.specs.Stages.{hoch_ost4_5}
use Rattle.methods.specs.Vectors.{add}
use Rattle.methods.proofs.Made.{taken_is, untaken}
use Rattle.methods.proofs.Lines.{go_on, reported, open_line, last_line, first_part, next_plain, next_part, next_made, summed, answered_line, unasked_line, sum_fails, narrowed_fails, stand_none}
use Rattle.lawson_etd.proofs.hoch_ost4_5.Goals as goal

pub returns-then-r-eq3 : goal.returns-then-r-eq3
unfolding zeros numbers hoch_ost4_5
returns-then-r-eq3 c =
    go_on _ _ _ _ _ _
    (open_line _ _ _ _ (omega (arith, c.if-r-eq3.true)) c.in_ok-question.ensures)

pub returns-in_err-question : goal.returns-in_err-question
unfolding zeros numbers hoch_ost4_5
returns-in_err-question c =
    go_on _ _ _ _ _ _
    (unasked_line _ _ _ _ c.in_err-question.ensures (stand_none c.from_residual.ensures))

pub returns-in_err-k : goal.returns-in_err-k
unfolding zeros numbers hoch_ost4_5
returns-in_err-k c =
    go_on _ _ _ _ _ _
    (answered_line _ _ _ _ _ _ _ c.in_ok-question.ensures (omega (arith, c.if-r-eq3.false, c.requires)) c.shifted_stage-f5.ensures (omega arith)
    (first_part _ _ _ c.requires.p1_value.0
    (next_made _ _ _ _ _ c.requires.p1_value.1 c.more-k.ensures
    (next_made _ _ _ _ _ c.requires.p1_value.2 c.more-k-2.ensures
    (next_made _ _ _ _ _ c.requires.g2_value.0 c.more-k-3.ensures
    (next_made _ _ _ _ _ c.requires.g2_value.1 c.more-k-4.ensures
    (next_plain _ _ _ _ refl (sum_fails _ _ (narrowed_fails _ (untaken _ c.in_err-k.ensures)) (stand_none c.from_residual-in_err-k.ensures)))))))))

pub returns-in_err-k-2 : goal.returns-in_err-k-2
unfolding zeros numbers hoch_ost4_5
returns-in_err-k-2 c =
    go_on _ _ _ _ _ _
    (answered_line _ _ _ _ _ _ _ c.in_ok-question.ensures (omega (arith, c.if-r-eq3.false, c.requires)) c.shifted_stage-f5.ensures (omega arith)
    (first_part _ _ _ c.requires.p1_value.0
    (next_made _ _ _ _ _ c.requires.p1_value.1 c.more-k.ensures
    (next_made _ _ _ _ _ c.requires.p1_value.2 c.more-k-2.ensures
    (next_made _ _ _ _ _ c.requires.g2_value.0 c.more-k-3.ensures
    (next_made _ _ _ _ _ c.requires.g2_value.1 c.more-k-4.ensures
    (next_part _ _ _ _ (taken_is _ _ c.in_ok-k.ensures)
    (next_plain _ _ _ _ refl (sum_fails _ _ (narrowed_fails _ (untaken _ c.in_err-k-2.ensures)) (stand_none c.from_residual-in_err-k-2.ensures))))))))))

pub returns : goal.returns
unfolding zeros numbers hoch_ost4_5
returns c =
    go_on _ _ _ _ _ _
    (answered_line _ _ _ _ _ _ _ c.in_ok-question.ensures (omega (arith, c.if-r-eq3.false, c.requires)) c.shifted_stage-f5.ensures (omega arith)
    (first_part _ _ _ c.requires.p1_value.0
    (next_made _ _ _ _ _ c.requires.p1_value.1 c.more-k.ensures
    (next_made _ _ _ _ _ c.requires.p1_value.2 c.more-k-2.ensures
    (next_made _ _ _ _ _ c.requires.g2_value.0 c.more-k-3.ensures
    (next_made _ _ _ _ _ c.requires.g2_value.1 c.more-k-4.ensures
    (next_part _ _ _ _ (taken_is _ _ c.in_ok-k.ensures)
    (next_part _ _ _ _ (taken_is _ _ c.in_ok-k-2.ensures)
    (summed _ _
    (reported _ c.joined.ensures
    (last_line _ _ _ (c.add-x.ensures ∙ ap (add _ _) c.scale.ensures) c.ended.ensures)))))))))))
