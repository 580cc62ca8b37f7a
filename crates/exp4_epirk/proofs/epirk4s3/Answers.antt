-- `exp4_epirk::epirk4s3`: its pass, up to the question about u2. Assumes nothing.
use Rattle.std.proofs.Common.{arith, refl}
use Rattle.methods.specs.Numbers.{numbers}
use Rattle.methods.specs.Schemes.{epirk4s3}
use Rattle.exp4_epirk.specs.Stages.{epirk4s3_2, epirk4s3_3}
use Rattle.methods.specs.Pass.{also, ◌>>=◌}
use Rattle.methods.proofs.Lines.{begin, at_once, checked_line, alone, reported, handed_on, wanted_line, both_ask, unasked}
use Rattle.exp4_epirk.proofs.epirk4s3.Goals as goal

pub returns : goal.returns
unfolding numbers epirk4s3 epirk4s3_2 epirk4s3_3
returns c =
    λ k given.
    begin _ _ _ _ _
    (checked_line _ _ _ refl
    (alone _ _
    (wanted_line 1 1 c.args.r.now.count _ _ _ given (λ few. omega arith) (λ x y. unfold ◌>>=◌ also in both_ask (λ r. unasked))
    (reported _ c.joined-tally.ensures
    (at_once _ _ _ c.add-u2.ensures
    (at_once _ _ _ c.add-u3.ensures
    (handed_on c.epirk4s3_2.ensures)))))))
