-- `lawson_etd::hoch_ost4_2`: its pass from the question about u2 on. Assumes nothing.
use Rattle.std.proofs.Common.{arith, refl, ap, ◌∙◌}
use Rattle.methods.specs.Numbers.{numbers}
use Rattle.lawson_etd.specs.Stages.{hoch_ost4_2}
use Rattle.methods.specs.Vectors.{add}
use Rattle.methods.proofs.Made.{taken_is, untaken}
use Rattle.methods.proofs.Lines.{go_on, at_once, reported, open_line, first-over, next_plain, next_part, next_made, summed, answered_line, handed_on, unasked_line, sum_fails, narrowed_fails, more_fails, stand_none}
use Rattle.lawson_etd.proofs.hoch_ost4_2.Goals as goal

pub hoch_ost4_3-requires-clause-p1h_value : goal.hoch_ost4_3-requires-clause-p1h_value
unfolding numbers hoch_ost4_2
hoch_ost4_3-requires-clause-p1h_value c = (c.requires, taken_is _ _ c.in_ok-p2h.ensures)

pub returns-then-r-eq0 : goal.returns-then-r-eq0
unfolding numbers hoch_ost4_2
returns-then-r-eq0 c =
    go_on _ _ _ _ _ _
    (open_line _ _ _ _ c.if-r-eq0.true c.in_ok-question.ensures)

pub returns-in_err-question : goal.returns-in_err-question
unfolding numbers hoch_ost4_2
returns-in_err-question c =
    go_on _ _ _ _ _ _
    (unasked_line _ _ _ _ c.in_err-question.ensures (stand_none c.from_residual.ensures))

pub returns-in_err-p2h : goal.returns-in_err-p2h
unfolding numbers hoch_ost4_2
returns-in_err-p2h c =
    go_on _ _ _ _ _ _
    (answered_line _ _ _ _ _ _ _ c.in_ok-question.ensures c.if-r-eq0.false c.shifted_stage-f2.ensures (omega arith)
    (first-over _ _ _ _ _ c.requires c.scaled-k.ensures
    (next_plain _ _ _ _ refl (sum_fails _ _ (more_fails _ _ _ _ (untaken _ c.in_err-p2h.ensures)) (stand_none c.from_residual-in_err-p2h.ensures)))))

pub returns-in_err-k : goal.returns-in_err-k
unfolding numbers hoch_ost4_2
returns-in_err-k c =
    go_on _ _ _ _ _ _
    (answered_line _ _ _ _ _ _ _ c.in_ok-question.ensures c.if-r-eq0.false c.shifted_stage-f2.ensures (omega arith)
    (first-over _ _ _ _ _ c.requires c.scaled-k.ensures
    (next_made _ _ _ _ _ (taken_is _ _ c.in_ok-p2h.ensures) c.more-k.ensures
    (next_plain _ _ _ _ refl (sum_fails _ _ (narrowed_fails _ (untaken _ c.in_err-k.ensures)) (stand_none c.from_residual-in_err-k.ensures))))))

pub returns : goal.returns
unfolding numbers hoch_ost4_2
returns c =
    go_on _ _ _ _ _ _
    (answered_line _ _ _ _ _ _ _ c.in_ok-question.ensures c.if-r-eq0.false c.shifted_stage-f2.ensures (omega arith)
    (first-over _ _ _ _ _ c.requires c.scaled-k.ensures
    (next_made _ _ _ _ _ (taken_is _ _ c.in_ok-p2h.ensures) c.more-k.ensures
    (next_part _ _ _ _ (taken_is _ _ c.in_ok-k.ensures)
    (summed _ _
    (reported _ c.joined-tally.ensures
    (at_once _ _ _ (c.add-u3.ensures ∙ ap (add _ _) c.scale.ensures)
    (handed_on c.hoch_ost4_3.ensures))))))))
