-- `lawson_etd::etdrk4`: its pass, up to the question about u2. Assumes nothing.
use Rattle.methods.specs.Numbers.{numbers}
use Rattle.methods.specs.Schemes.{etdrk4}
use Rattle.lawson_etd.specs.Stages.{etdrk4_2, etdrk4_3, etdrk4_4}
use Rattle.methods.proofs.Made.{taken_is, untaken}
use Rattle.methods.proofs.Lines.{begin, over_line, alone, handed_on, untried_line, over_fails, stand_none}
use Rattle.lawson_etd.proofs.etdrk4.Goals as goal

pub returns-in_err-phi_term : goal.returns-in_err-phi_term
unfolding numbers etdrk4 etdrk4_2 etdrk4_3 etdrk4_4
returns-in_err-phi_term c =
    begin _ _ _ _ _
    (untried_line _ _ (over_fails _ _ (untaken _ c.in_err-phi_term.ensures)) (stand_none c.from_residual.ensures))

pub returns : goal.returns
unfolding numbers etdrk4 etdrk4_2 etdrk4_3 etdrk4_4
returns c =
    begin _ _ _ _ _
    (over_line _ _ _ _ _ (taken_is _ _ c.in_ok-phi_term.ensures) c.added-s2.ensures
    (alone _ _
    (handed_on c.etdrk4_2.ensures)))
