-- `lawson_etd::hoch_ost4_4`: its pass from the question about u4 on. Assumes nothing.
use Rattle.std.proofs.Common.{arith, refl, ap, ◌∙◌}
use Rattle.methods.specs.Numbers.{numbers}
use Rattle.lawson_etd.specs.Stages.{hoch_ost4_4, sum5}
use Rattle.lawson_etd.proofs.HochOst.{a52_p3, a52_p2, a54_a52}
use Rattle.methods.specs.Vectors.{add}
use Rattle.methods.proofs.Made.{taken_is, untaken}
use Rattle.methods.proofs.Lines.{go_on, at_once, reported, open_line, first-over, next_plain, next_part, part_now, summed, answered_line, handed_later, unasked_line, sum_fails, narrowed_fails, more_fails, stand_none}
use Rattle.lawson_etd.proofs.hoch_ost4_4.Goals as goal

pub hoch_ost4_sum-requires-clause-p2h_value : goal.hoch_ost4_sum-requires-clause-p2h_value
unfolding numbers hoch_ost4_4 sum5
hoch_ost4_sum-requires-clause-p2h_value c = (c.requires.p1h_value.1, c.requires.p1_value.1, taken_is _ _ c.in_ok-p3.ensures)

pub hoch_ost4_sum-requires-clause-g2_value : goal.hoch_ost4_sum-requires-clause-g2_value
unfolding numbers hoch_ost4_4 sum5
hoch_ost4_sum-requires-clause-g2_value c = (taken_is _ _ c.in_ok-g2.ensures, taken_is _ _ c.in_ok-g3.ensures)

pub hoch_ost4_5-requires-clause-p1_value : goal.hoch_ost4_5-requires-clause-p1_value
unfolding numbers hoch_ost4_4 sum5
hoch_ost4_5-requires-clause-p1_value c = (c.requires.p1_value.0, c.requires.p1_value.1, taken_is _ _ c.in_ok-p3.ensures)

pub hoch_ost4_5-requires-clause-g2_value : goal.hoch_ost4_5-requires-clause-g2_value
unfolding numbers hoch_ost4_4 sum5
hoch_ost4_5-requires-clause-g2_value c = (taken_is _ _ c.in_ok-g2.ensures, taken_is _ _ c.in_ok-g3.ensures)

pub returns-in_err-question : goal.returns-in_err-question
unfolding numbers hoch_ost4_4 sum5
returns-in_err-question c =
    go_on _ _ _ _ _ _
    (unasked_line _ _ _ _ c.in_err-question.ensures (stand_none c.from_residual.ensures))

pub returns-in_err-p3 : goal.returns-in_err-p3
unfolding numbers hoch_ost4_4 sum5
returns-in_err-p3 c =
    go_on _ _ _ _ _ _
    (answered_line _ _ _ _ _ _ _ c.in_ok-question.ensures (omega (arith, c.if-r-eq2.false, c.requires)) c.shifted_stage-f4.ensures (omega arith)
    (first-over _ _ _ _ _ c.requires.p1h_value.0 refl
    (next_plain _ _ _ _ refl (sum_fails _ _ (more_fails _ _ _ _ (a52_p3 _ _ _ _ (untaken _ c.in_err-p3.ensures))) (stand_none c.from_residual-in_err-p3.ensures)))))

pub returns-in_err-g2 : goal.returns-in_err-g2
unfolding numbers hoch_ost4_4 sum5
returns-in_err-g2 c =
    go_on _ _ _ _ _ _
    (answered_line _ _ _ _ _ _ _ c.in_ok-question.ensures (omega (arith, c.if-r-eq2.false, c.requires)) c.shifted_stage-f4.ensures (omega arith)
    (first-over _ _ _ _ _ c.requires.p1h_value.0 refl
    (next_plain _ _ _ _ refl
    (next_plain _ _ _ _ refl
    (part_now _ _ _ refl
    (next_plain _ _ _ _ refl
    (next_plain _ _ _ _ refl (sum_fails _ _ (more_fails _ _ _ _ (a54_a52 _ _ _ _ (a52_p2 _ _ _ _ (untaken _ c.in_err-g2.ensures)))) (stand_none c.from_residual-in_err-g2.ensures)))))))))

pub returns-in_err-g3 : goal.returns-in_err-g3
unfolding numbers hoch_ost4_4 sum5
returns-in_err-g3 c =
    go_on _ _ _ _ _ _
    (answered_line _ _ _ _ _ _ _ c.in_ok-question.ensures (omega (arith, c.if-r-eq2.false, c.requires)) c.shifted_stage-f4.ensures (omega arith)
    (first-over _ _ _ _ _ c.requires.p1h_value.0 refl
    (next_plain _ _ _ _ refl
    (next_plain _ _ _ _ refl
    (part_now _ _ _ refl
    (next_plain _ _ _ _ refl
    (next_plain _ _ _ _ refl (sum_fails _ _ (more_fails _ _ _ _ (a54_a52 _ _ _ _ (a52_p3 _ _ _ _ (untaken _ c.in_err-g3.ensures)))) (stand_none c.from_residual-in_err-g3.ensures)))))))))

pub returns-then-r-eq2 : goal.returns-then-r-eq2
unfolding numbers hoch_ost4_4 sum5
returns-then-r-eq2 c =
    go_on _ _ _ _ _ _
    (open_line _ _ _ _ (omega (arith, c.if-r-eq2.true)) c.in_ok-question.ensures)

pub returns-in_err-s5 : goal.returns-in_err-s5
unfolding numbers hoch_ost4_4 sum5
returns-in_err-s5 c =
    go_on _ _ _ _ _ _
    (answered_line _ _ _ _ _ _ _ c.in_ok-question.ensures (omega (arith, c.if-r-eq2.false, c.requires)) c.shifted_stage-f4.ensures (omega arith)
    (first-over _ _ _ _ _ c.requires.p1h_value.0 refl
    (next_plain _ _ _ _ refl
    (next_plain _ _ _ _ refl
    (part_now _ _ _ c.add-sum23.ensures
    (next_plain _ _ _ _ refl
    (next_plain _ _ _ _ refl (sum_fails _ _ (narrowed_fails _ (untaken _ c.in_err-s5.ensures)) (stand_none c.from_residual-in_err-s5.ensures)))))))))

pub returns : goal.returns
unfolding numbers hoch_ost4_4 sum5
returns c =
    go_on _ _ _ _ _ _
    (answered_line _ _ _ _ _ _ _ c.in_ok-question.ensures (omega (arith, c.if-r-eq2.false, c.requires)) c.shifted_stage-f4.ensures (omega arith)
    (first-over _ _ _ _ _ c.requires.p1h_value.0 refl
    (next_plain _ _ _ _ refl
    (next_plain _ _ _ _ refl
    (part_now _ _ _ c.add-sum23.ensures
    (next_plain _ _ _ _ refl
    (next_part _ _ _ _ (taken_is _ _ c.in_ok-s5.ensures)
    (summed _ _
    (reported _ c.joined-tally.ensures
    (at_once _ _ _ (c.add-u5.ensures ∙ ap (add _ _) c.scale.ensures)
    (handed_later _ _ c.hoch_ost4_5.ensures (omega arith) (omega arith))))))))))))
