-- `lawson_etd::norsett_euler`: its pass, line by line. Assumes nothing.
use Rattle.std.proofs.Common.{refl}
use Rattle.matrix.specs.Vector.{zeros}
use Rattle.methods.specs.Schemes.{norsett_euler}
use Rattle.methods.proofs.Made.{taken_is, untaken}
use Rattle.methods.proofs.Lines.{begin, over_line, alone, last_line, untried_line, over_fails, stand_none}
use Rattle.lawson_etd.proofs.norsett_euler.Goals as goal

pub returns-in_err-phi_term : goal.returns-in_err-phi_term
unfolding zeros norsett_euler
returns-in_err-phi_term c =
    λ count first answers.
    begin _ _ _ _ _
    (untried_line _ _ (over_fails _ _ (untaken _ c.in_err-phi_term.ensures)) (stand_none c.from_residual.ensures))

pub returns : goal.returns
unfolding zeros norsett_euler
returns c =
    λ count first answers.
    begin _ _ _ _ _
    (over_line _ _ _ _ _ (taken_is _ _ c.in_ok-phi_term.ensures) c.added-x.ensures
    (alone _ _
    (last_line _ _ _ refl c.ended.ensures)))
