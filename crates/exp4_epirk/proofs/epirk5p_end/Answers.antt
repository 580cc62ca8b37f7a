-- `exp4_epirk::epirk5p_end`: its end, in either variant. Assumes nothing.
use Rattle.std.proofs.Common.{refl}
use Rattle.matrix.specs.Vector.{zeros}
use Rattle.methods.specs.Numbers.{numbers}
use Rattle.methods.specs.Schemes.{epirk5p_end}
use Rattle.methods.proofs.Made.{taken_is, untaken}
use Rattle.methods.proofs.Lines.{go_on, over_line, reported, last_line, first_part, first-over, next_plain, next_made, summed, untried_line, over_fails, sum_fails, more_fails, stand_none}
use Rattle.exp4_epirk.proofs.epirk5p_end.Goals as goal

pub returns-in_err-term-in-P1 : goal.returns-in_err-term-in-P1
unfolding zeros numbers epirk5p_end
returns-in_err-term-in-P1 c =
    λ count first answers.
    rw c.in-P1.is
    (go_on _ _ _ _ _ _
    (untried_line _ _ (over_fails _ _ (untaken _ (rw c.powi3.ensures at c.in_err-term-in-P1.ensures))) (stand_none c.from_residual.ensures)))

pub returns-in_ok-term-in-P1 : goal.returns-in_ok-term-in-P1
unfolding zeros numbers epirk5p_end
returns-in_ok-term-in-P1 c =
    λ count first answers.
    rw c.in-P1.is
    (go_on _ _ _ _ _ _
    (over_line _ _ _ _ _ (taken_is _ _ (rw c.powi3.ensures at c.in_ok-term-in-P1.ensures)) c.after-s.ensures
    (reported _ c.joined.ensures
    (last_line _ _ _ refl c.ended.ensures))))

pub returns-in_err-phi_action-in-P2 : goal.returns-in_err-phi_action-in-P2
unfolding zeros numbers epirk5p_end
returns-in_err-phi_action-in-P2 c =
    λ count first answers.
    rw c.in-P2.is
    (go_on _ _ _ _ _ _
    (first_part _ _ _ refl (sum_fails _ _ (over_fails _ _ (untaken _ c.in_err-phi_action-in-P2.ensures)) (stand_none c.from_residual-in_err-phi_action-in-P2.ensures))))

pub returns-in_err-phi_action-in-P2-2 : goal.returns-in_err-phi_action-in-P2-2
unfolding zeros numbers epirk5p_end
returns-in_err-phi_action-in-P2-2 c =
    λ count first answers.
    rw c.in-P2.is
    (go_on _ _ _ _ _ _
    (first-over _ _ _ _ _ (taken_is _ _ c.in_ok-phi_action-in-P2.ensures) c.after-s-in-P2.ensures
    (next_plain _ _ _ _ refl (sum_fails _ _ (more_fails _ _ _ _ (untaken _ c.in_err-phi_action-in-P2-2.ensures)) (stand_none c.from_residual-in_err-phi_action-in-P2-2.ensures)))))

pub returns-in_err-phi_action-in-P2-3 : goal.returns-in_err-phi_action-in-P2-3
unfolding zeros numbers epirk5p_end
returns-in_err-phi_action-in-P2-3 c =
    λ count first answers.
    rw c.in-P2.is
    (go_on _ _ _ _ _ _
    (first-over _ _ _ _ _ (taken_is _ _ c.in_ok-phi_action-in-P2.ensures) c.after-s-in-P2.ensures
    (next_made _ _ _ _ _ (taken_is _ _ c.in_ok-phi_action-in-P2-2.ensures) (rw c.powi2.ensures at c.more-s.ensures)
    (next_plain _ _ _ _ refl (sum_fails _ _ (more_fails _ _ _ _ (untaken _ c.in_err-phi_action-in-P2-3.ensures)) (stand_none c.from_residual-in_err-phi_action-in-P2-3.ensures))))))

pub returns-in_ok-phi_action-in-P2-3 : goal.returns-in_ok-phi_action-in-P2-3
unfolding zeros numbers epirk5p_end
returns-in_ok-phi_action-in-P2-3 c =
    λ count first answers.
    rw c.in-P2.is
    (go_on _ _ _ _ _ _
    (first-over _ _ _ _ _ (taken_is _ _ c.in_ok-phi_action-in-P2.ensures) c.after-s-in-P2.ensures
    (next_made _ _ _ _ _ (taken_is _ _ c.in_ok-phi_action-in-P2-2.ensures) (rw c.powi2.ensures at c.more-s.ensures)
    (next_made _ _ _ _ _ (taken_is _ _ c.in_ok-phi_action-in-P2-3.ensures) (rw c.powi3-in-P2.ensures at c.more-s-in-P2.ensures)
    (summed _ _
    (reported _ c.joined-in-P2.ensures
    (last_line _ _ _ refl c.ended-in-P2.ensures)))))))
