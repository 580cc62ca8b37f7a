-- `exp4_epirk::exp4`: its pass, up to the question about u4. Assumes nothing.
use Rattle.std.proofs.Common.{ap, ◌∙◌}
use Rattle.methods.specs.Numbers.{numbers}
use Rattle.methods.specs.Schemes.{exp4}
use Rattle.exp4_epirk.specs.Stages.{exp4_4, exp4_7}
use Rattle.methods.specs.Vectors.{add}
use Rattle.methods.proofs.Made.{taken_is, untaken}
use Rattle.methods.proofs.Lines.{begin, at_once, checked_line, alone, reported, handed_on, untried_line, stand_none}
use Rattle.exp4_epirk.proofs.exp4.Goals as goal

pub returns-in_err-k10 : goal.returns-in_err-k10
unfolding numbers exp4 exp4_4 exp4_7
returns-in_err-k10 c =
    begin _ _ _ _ _
    (untried_line _ _ (untaken _ c.in_err-k10.ensures) (stand_none c.from_residual.ensures))

pub returns-in_err-k11 : goal.returns-in_err-k11
unfolding numbers exp4 exp4_4 exp4_7
returns-in_err-k11 c =
    begin _ _ _ _ _
    (checked_line _ _ _ (taken_is _ _ c.in_ok-k10.ensures)
    (untried_line _ _ (untaken _ c.in_err-k11.ensures) (stand_none c.from_residual-in_err-k11.ensures)))

pub returns-in_err-k12 : goal.returns-in_err-k12
unfolding numbers exp4 exp4_4 exp4_7
returns-in_err-k12 c =
    begin _ _ _ _ _
    (checked_line _ _ _ (taken_is _ _ c.in_ok-k10.ensures)
    (checked_line _ _ _ (taken_is _ _ c.in_ok-k11.ensures)
    (untried_line _ _ (untaken _ c.in_err-k12.ensures) (stand_none c.from_residual-in_err-k12.ensures))))

pub returns : goal.returns
unfolding numbers exp4 exp4_4 exp4_7
returns c =
    begin _ _ _ _ _
    (checked_line _ _ _ (taken_is _ _ c.in_ok-k10.ensures)
    (alone _ _
    (checked_line _ _ _ (taken_is _ _ c.in_ok-k11.ensures)
    (reported _ c.joined.ensures
    (checked_line _ _ _ (taken_is _ _ c.in_ok-k12.ensures)
    (reported _ c.joined-tally.ensures
    (at_once _ _ _ c.combine3-w4.ensures
    (at_once _ _ _ (c.add-u4.ensures ∙ ap (add _ _) c.scale.ensures)
    (handed_on c.exp4_4.ensures)))))))))
