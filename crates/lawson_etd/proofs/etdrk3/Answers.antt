-- `lawson_etd::etdrk3`: its pass, up to the question about u2. Assumes nothing.
use Rattle.methods.specs.Numbers.{numbers}
use Rattle.methods.specs.Schemes.{etdrk3}
use Rattle.lawson_etd.specs.Stages.{etdrk3_2, etdrk3_3}
use Rattle.methods.proofs.Made.{taken_is, untaken}
use Rattle.methods.proofs.Lines.{begin, over_line, alone, handed_on, untried_line, over_fails, stand_none}
use Rattle.lawson_etd.proofs.etdrk3.Goals as goal

pub returns-in_err-phi_term : goal.returns-in_err-phi_term
unfolding numbers etdrk3 etdrk3_2 etdrk3_3
returns-in_err-phi_term c =
    begin _ _ _ _ _
    (untried_line _ _ (over_fails _ _ (untaken _ c.in_err-phi_term.ensures)) (stand_none c.from_residual.ensures))

pub returns : goal.returns
unfolding numbers etdrk3 etdrk3_2 etdrk3_3
returns c =
    begin _ _ _ _ _
    (over_line _ _ _ _ _ (taken_is _ _ c.in_ok-phi_term.ensures) c.added-s2.ensures
    (alone _ _
    (handed_on c.etdrk3_2.ensures)))
