-- `exp4_epirk::epirk5p`: its pass, up to the question about u1. Assumes nothing.
use Rattle.std.proofs.Common.{arith}
use Rattle.methods.specs.Numbers.{numbers}
use Rattle.methods.specs.Schemes.{epirk5p}
use Rattle.exp4_epirk.specs.Stages.{epirk5p_1, epirk5p_2}
use Rattle.methods.specs.Pass.{also, ◌>>=◌}
use Rattle.methods.proofs.Made.{taken_is, untaken}
use Rattle.methods.proofs.Lines.{begin, at_once, checked_line, alone, reported, handed_on, wanted_line, both_ask, unasked, untried_line, wanted_fails, stand_none}
use Rattle.exp4_epirk.proofs.epirk5p.Goals as goal

pub returns-in_err-k11 : goal.returns-in_err-k11
unfolding numbers epirk5p epirk5p_1 epirk5p_2
returns-in_err-k11 c =
    begin _ _ _ _ _
    (untried_line _ _ (untaken _ c.in_err-k11.ensures) (stand_none c.from_residual.ensures))

pub returns-in_err-k21 : goal.returns-in_err-k21
unfolding numbers epirk5p epirk5p_1 epirk5p_2
returns-in_err-k21 c =
    begin _ _ _ _ _
    (checked_line _ _ _ (taken_is _ _ c.in_ok-k11.ensures)
    (untried_line _ _ (wanted_fails _ _ (untaken _ c.in_err-k21.ensures)) (stand_none c.from_residual-in_err-k21.ensures)))

pub returns-in_err-k31 : goal.returns-in_err-k31
unfolding numbers epirk5p epirk5p_1 epirk5p_2
returns-in_err-k31 c =
    begin _ _ _ _ _
    (checked_line _ _ _ (taken_is _ _ c.in_ok-k11.ensures)
    (wanted_line 1 1 c.args.r.now.count _ _ _ (taken_is _ _ c.in_ok-k21.ensures) (λ few. omega arith) (λ x y. unfold ◌>>=◌ also in both_ask (λ r. unasked))
    (untried_line _ _ (wanted_fails _ _ (untaken _ c.in_err-k31.ensures)) (stand_none c.from_residual-in_err-k31.ensures))))

pub returns : goal.returns
unfolding numbers epirk5p epirk5p_1 epirk5p_2
returns c =
    begin _ _ _ _ _
    (checked_line _ _ _ (taken_is _ _ c.in_ok-k11.ensures)
    (alone _ _
    (wanted_line 1 1 c.args.r.now.count _ _ _ (taken_is _ _ c.in_ok-k21.ensures) (λ few. omega arith) (λ x y. unfold ◌>>=◌ also in both_ask (λ r. unasked))
    (reported _ c.joined.ensures
    (wanted_line 2 2 c.args.r.now.count _ _ _ (taken_is _ _ c.in_ok-k31.ensures) (λ few. omega arith) (λ x y. unfold ◌>>=◌ also in both_ask (λ r. both_ask (λ r. unasked)))
    (reported _ c.joined-tally.ensures
    (at_once _ _ _ c.add-u1.ensures
    (handed_on c.epirk5p_1.ensures))))))))
