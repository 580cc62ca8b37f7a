-- `exp4_epirk::epirk5s3`: its pass, up to the question about u2. Assumes nothing.
use Rattle.std.proofs.Common.{refl}
use Rattle.methods.specs.Numbers.{numbers}
use Rattle.methods.specs.Schemes.{epirk5s3}
use Rattle.exp4_epirk.specs.Stages.{epirk5s3_2, epirk5s3_3}
use Rattle.methods.proofs.Made.{taken_is, untaken}
use Rattle.methods.proofs.Lines.{begin, at_once, alone, first_part, next_plain, next_part, summed, handed_on, sum_fails, narrowed_fails, stand_none}
use Rattle.exp4_epirk.proofs.epirk5s3.Goals as goal

pub returns-in_err-k2 : goal.returns-in_err-k2
unfolding numbers epirk5s3 epirk5s3_2 epirk5s3_3
returns-in_err-k2 c =
    begin _ _ _ _ _
    (first_part _ _ _ refl (sum_fails _ _ (untaken _ (rw c.powi2.ensures at c.in_err-k2.ensures)) (stand_none c.from_residual.ensures)))

pub returns-in_err-k2-2 : goal.returns-in_err-k2-2
unfolding numbers epirk5s3 epirk5s3_2 epirk5s3_3
returns-in_err-k2-2 c =
    begin _ _ _ _ _
    (first_part _ _ _ (taken_is _ _ (rw c.powi2.ensures at c.in_ok-k2.ensures))
    (next_plain _ _ _ _ refl (sum_fails _ _ (narrowed_fails _ (untaken _ (rw c.powi3.ensures at c.in_err-k2-2.ensures))) (stand_none c.from_residual-in_err-k2-2.ensures))))

pub returns : goal.returns
unfolding numbers epirk5s3 epirk5s3_2 epirk5s3_3
returns c =
    begin _ _ _ _ _
    (first_part _ _ _ (taken_is _ _ (rw c.powi2.ensures at c.in_ok-k2.ensures))
    (next_part _ _ _ _ (taken_is _ _ (rw c.powi3.ensures at c.in_ok-k2-2.ensures))
    (summed _ _
    (alone _ _
    (at_once _ _ _ c.add-u2.ensures
    (handed_on c.epirk5s3_2.ensures))))))
