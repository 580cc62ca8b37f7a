-- `lawson_etd::hoch_ost4`: its pass, up to the question about u2. Assumes nothing.
use Rattle.std.proofs.Common.{ap, ◌∙◌}
use Rattle.methods.specs.Numbers.{numbers}
use Rattle.methods.specs.Schemes.{hoch_ost4}
use Rattle.lawson_etd.specs.Stages.{hoch_ost4_2, hoch_ost4_3, hoch_ost4_4, hoch_ost4_5}
use Rattle.methods.specs.Vectors.{add}
use Rattle.methods.proofs.Made.{taken_is, untaken}
use Rattle.methods.proofs.Lines.{begin, over_plain, alone, handed_on, untried_line, over_fails, stand_none}
use Rattle.lawson_etd.proofs.hoch_ost4.Goals as goal

pub hoch_ost4_2-requires : goal.hoch_ost4_2-requires
unfolding numbers hoch_ost4 hoch_ost4_2 hoch_ost4_3 hoch_ost4_4 hoch_ost4_5
hoch_ost4_2-requires c = taken_is _ _ c.in_ok-p1h.ensures

pub returns-in_err-p1h : goal.returns-in_err-p1h
unfolding numbers hoch_ost4 hoch_ost4_2 hoch_ost4_3 hoch_ost4_4 hoch_ost4_5
returns-in_err-p1h c =
    begin _ _ _ _ _
    (untried_line _ _ (over_fails _ _ (untaken _ c.in_err-p1h.ensures)) (stand_none c.from_residual.ensures))

pub returns : goal.returns
unfolding numbers hoch_ost4 hoch_ost4_2 hoch_ost4_3 hoch_ost4_4 hoch_ost4_5
returns c =
    begin _ _ _ _ _
    (over_plain _ _ _ _ _ (taken_is _ _ c.in_ok-p1h.ensures) (c.add-u2.ensures ∙ ap (add _ _) c.scale.ensures)
    (alone _ _
    (handed_on c.hoch_ost4_2.ensures)))
