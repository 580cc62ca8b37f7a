-- `lawson_etd::lawson_euler`: its pass, line by line. Assumes nothing.
use Rattle.std.proofs.Common.{refl}
use Rattle.matrix.specs.Vector.{zeros}
use Rattle.methods.specs.Schemes.{lawson_euler}
use Rattle.methods.proofs.Made.{taken_is, untaken}
use Rattle.methods.proofs.Lines.{begin, at_once, checked_line, alone, last_line, untried_line, stand_none}
use Rattle.lawson_etd.proofs.lawson_euler.Goals as goal

pub returns-in_err-s : goal.returns-in_err-s
unfolding zeros lawson_euler
returns-in_err-s c =
    λ count first answers.
    begin _ _ _ _ _
    (at_once _ _ _ c.axpy-shifted.ensures
    (untried_line _ _ (untaken _ c.in_err-s.ensures) (stand_none c.from_residual.ensures)))

pub returns : goal.returns
unfolding zeros lawson_euler
returns c =
    λ count first answers.
    begin _ _ _ _ _
    (at_once _ _ _ c.axpy-shifted.ensures
    (checked_line _ _ _ (taken_is _ _ c.in_ok-s.ensures)
    (alone _ _
    (last_line _ _ _ refl c.ended.ensures))))
