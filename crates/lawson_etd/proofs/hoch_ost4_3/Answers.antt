-- `lawson_etd::hoch_ost4_3`: its pass from the question about u3 on. Assumes nothing.
use Rattle.std.proofs.Common.{arith, refl, ap, ◌∙◌}
use Rattle.methods.specs.Numbers.{numbers}
use Rattle.lawson_etd.specs.Stages.{hoch_ost4_3}
use Rattle.methods.specs.Vectors.{add}
use Rattle.methods.proofs.Made.{taken_is, untaken}
use Rattle.methods.proofs.Lines.{go_on, at_once, reported, open_line, first_part, next_plain, next_part, next_made, summed, answered_line, handed_later, unasked_line, sum_fails, narrowed_fails, more_fails, stand_none}
use Rattle.lawson_etd.proofs.hoch_ost4_3.Goals as goal

pub hoch_ost4_4-requires-clause-p1_value : goal.hoch_ost4_4-requires-clause-p1_value
unfolding numbers hoch_ost4_3
hoch_ost4_4-requires-clause-p1_value c = (taken_is _ _ c.in_ok-p1.ensures, taken_is _ _ c.in_ok-p2.ensures)

pub returns-then-r-eq1 : goal.returns-then-r-eq1
unfolding numbers hoch_ost4_3
returns-then-r-eq1 c =
    go_on _ _ _ _ _ _
    (open_line _ _ _ _ (omega (arith, c.if-r-eq1.true)) c.in_ok-question.ensures)

pub returns-in_err-question : goal.returns-in_err-question
unfolding numbers hoch_ost4_3
returns-in_err-question c =
    go_on _ _ _ _ _ _
    (unasked_line _ _ _ _ c.in_err-question.ensures (stand_none c.from_residual.ensures))

pub returns-in_err-p1 : goal.returns-in_err-p1
unfolding numbers hoch_ost4_3
returns-in_err-p1 c =
    go_on _ _ _ _ _ _
    (answered_line _ _ _ _ _ _ _ c.in_ok-question.ensures (omega (arith, c.if-r-eq1.false, c.requires)) c.shifted_stage-f3.ensures (omega arith)
    (first_part _ _ _ refl (sum_fails _ _ (untaken _ c.in_err-p1.ensures) (stand_none c.from_residual-in_err-p1.ensures))))

pub returns-in_err-p2 : goal.returns-in_err-p2
unfolding numbers hoch_ost4_3
returns-in_err-p2 c =
    go_on _ _ _ _ _ _
    (answered_line _ _ _ _ _ _ _ c.in_ok-question.ensures (omega (arith, c.if-r-eq1.false, c.requires)) c.shifted_stage-f3.ensures (omega arith)
    (first_part _ _ _ (taken_is _ _ c.in_ok-p1.ensures)
    (next_plain _ _ _ _ refl (sum_fails _ _ (more_fails _ _ _ _ (untaken _ c.in_err-p2.ensures)) (stand_none c.from_residual-in_err-p2.ensures)))))

pub returns-in_err-k : goal.returns-in_err-k
unfolding numbers hoch_ost4_3
returns-in_err-k c =
    go_on _ _ _ _ _ _
    (answered_line _ _ _ _ _ _ _ c.in_ok-question.ensures (omega (arith, c.if-r-eq1.false, c.requires)) c.shifted_stage-f3.ensures (omega arith)
    (first_part _ _ _ (taken_is _ _ c.in_ok-p1.ensures)
    (next_made _ _ _ _ _ (taken_is _ _ c.in_ok-p2.ensures) c.more-k.ensures
    (next_plain _ _ _ _ refl (sum_fails _ _ (narrowed_fails _ (untaken _ c.in_err-k.ensures)) (stand_none c.from_residual-in_err-k.ensures))))))

pub returns-in_err-k-2 : goal.returns-in_err-k-2
unfolding numbers hoch_ost4_3
returns-in_err-k-2 c =
    go_on _ _ _ _ _ _
    (answered_line _ _ _ _ _ _ _ c.in_ok-question.ensures (omega (arith, c.if-r-eq1.false, c.requires)) c.shifted_stage-f3.ensures (omega arith)
    (first_part _ _ _ (taken_is _ _ c.in_ok-p1.ensures)
    (next_made _ _ _ _ _ (taken_is _ _ c.in_ok-p2.ensures) c.more-k.ensures
    (next_part _ _ _ _ (taken_is _ _ c.in_ok-k.ensures)
    (next_plain _ _ _ _ refl (sum_fails _ _ (narrowed_fails _ (untaken _ c.in_err-k-2.ensures)) (stand_none c.from_residual-in_err-k-2.ensures)))))))

pub returns : goal.returns
unfolding numbers hoch_ost4_3
returns c =
    go_on _ _ _ _ _ _
    (answered_line _ _ _ _ _ _ _ c.in_ok-question.ensures (omega (arith, c.if-r-eq1.false, c.requires)) c.shifted_stage-f3.ensures (omega arith)
    (first_part _ _ _ (taken_is _ _ c.in_ok-p1.ensures)
    (next_made _ _ _ _ _ (taken_is _ _ c.in_ok-p2.ensures) c.more-k.ensures
    (next_part _ _ _ _ (taken_is _ _ c.in_ok-k.ensures)
    (next_part _ _ _ _ (taken_is _ _ c.in_ok-k-2.ensures)
    (summed _ _
    (reported _ c.joined-tally.ensures
    (at_once _ _ _ (c.add-u4.ensures ∙ ap (add _ _) c.scale.ensures)
    (handed_later _ _ c.hoch_ost4_4.ensures (omega arith) (omega arith))))))))))
