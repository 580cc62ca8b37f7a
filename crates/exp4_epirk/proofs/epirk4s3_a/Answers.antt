-- `exp4_epirk::epirk4s3_a`: the first variant's phi terms. Assumes nothing.
use Rattle.methods.specs.Numbers.{numbers}
use Rattle.methods.specs.Schemes.{epirk4s3, epirk4s3_a}
use Rattle.methods.proofs.Made.{taken_is, untaken}
use Rattle.methods.proofs.Lines.{begin, checked_line, untried_line, wanted_fails, stand_none}
use Rattle.exp4_epirk.proofs.epirk4s3_a.Goals as goal

pub returns-in_err-k2 : goal.returns-in_err-k2
unfolding numbers epirk4s3 epirk4s3_a
returns-in_err-k2 c =
    begin _ _ _ _ _
    (untried_line _ _ (untaken _ c.in_err-k2.ensures) (stand_none c.from_residual.ensures))

pub returns-in_err-k3 : goal.returns-in_err-k3
unfolding numbers epirk4s3 epirk4s3_a
returns-in_err-k3 c =
    begin _ _ _ _ _
    (checked_line _ _ _ (taken_is _ _ c.in_ok-k2.ensures)
    (untried_line _ _ (wanted_fails _ _ (untaken _ c.in_err-k3.ensures)) (stand_none c.from_residual-in_err-k3.ensures)))

pub returns : goal.returns
unfolding numbers epirk4s3 epirk4s3_a
returns c = rw (taken_is _ _ c.in_ok-k2.ensures) at (c.epirk4s3.ensures _ (taken_is _ _ c.in_ok-k3.ensures))
