-- `lawson_etd::etdrk2`: its pass, up to the question about u2. Assumes nothing.
use Rattle.methods.specs.Schemes.{etdrk2}
use Rattle.lawson_etd.specs.Stages.{etdrk2_2}
use Rattle.methods.proofs.Made.{taken_is, untaken}
use Rattle.methods.proofs.Lines.{begin, over_line, alone, handed_on, untried_line, over_fails, stand_none}
use Rattle.lawson_etd.proofs.etdrk2.Goals as goal

pub returns-in_err-phi_term : goal.returns-in_err-phi_term
unfolding etdrk2 etdrk2_2
returns-in_err-phi_term c =
    begin _ _ _ _ _
    (untried_line _ _ (over_fails _ _ (untaken _ c.in_err-phi_term.ensures)) (stand_none c.from_residual.ensures))

pub returns : goal.returns
unfolding etdrk2 etdrk2_2
returns c =
    begin _ _ _ _ _
    (over_line _ _ _ _ _ (taken_is _ _ c.in_ok-phi_term.ensures) c.added-s2.ensures
    (alone _ _
    (handed_on c.etdrk2_2.ensures)))
