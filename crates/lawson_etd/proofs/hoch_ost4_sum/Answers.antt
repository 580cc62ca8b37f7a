-- `lawson_etd::hoch_ost4_sum`: its combinations, one after the other. Assumes nothing.
use Rattle.std.proofs.Common.{◌∙◌}
use Rattle.methods.specs.Numbers.{numbers}
use Rattle.lawson_etd.specs.Stages.{sum5}
use Rattle.lawson_etd.proofs.HochOst.{a52_made, a54_made, a52_p3h, a54_p2h, a54_a52, fails_narrowed}
use Rattle.methods.proofs.Tallies.{more_of, more_both}
use Rattle.methods.proofs.Made.{taken_is, untaken, is_made, none_made}
use Rattle.methods.proofs.Lines.{narrowed_fails, more_fails, onto_fails}
use Rattle.lawson_etd.proofs.hoch_ost4_sum.Goals as goal

pub returns-in_err-p3h : goal.returns-in_err-p3h
unfolding numbers sum5
returns-in_err-p3h c =
    c.from_residual.ensures ∙ none_made _ (fails_narrowed _
    (onto_fails _ _ _ _ (onto_fails _ _ _ _ (onto_fails _ _ _ _ (more_fails _ _ _ _ (a52_p3h _ _ _ _ (untaken _ c.in_err-p3h.ensures)))))))

pub returns-in_err-g2h : goal.returns-in_err-g2h
unfolding numbers sum5
returns-in_err-g2h c =
    c.from_residual-in_err-g2h.ensures ∙ none_made _ (fails_narrowed _ (more_fails _ _ _ _ (a54_p2h _ _ _ _ (untaken _ c.in_err-g2h.ensures))))

pub returns-in_err-g3h : goal.returns-in_err-g3h
unfolding numbers sum5
returns-in_err-g3h c =
    c.from_residual-in_err-g3h.ensures ∙ none_made _ (fails_narrowed _
    (more_fails _ _ _ _ (a54_a52 _ _ _ _ (a52_p3h _ _ _ _ (untaken _ c.in_err-g3h.ensures)))))

pub returns-in_err-a52_of : goal.returns-in_err-a52_of
unfolding numbers sum5
returns-in_err-a52_of c =
    c.from_residual-in_err-a52_of.ensures ∙ none_made _ (fails_narrowed _
    (onto_fails _ _ _ _ (more_fails _ _ _ _ (narrowed_fails _ (untaken _ c.in_err-a52_of.ensures)))))

pub returns : goal.returns
unfolding numbers sum5
returns c =
    let p3h = taken_is _ _ c.in_ok-p3h.ensures in
    let g2h = taken_is _ _ c.in_ok-g2h.ensures in
    let g3h = taken_is _ _ c.in_ok-g3h.ensures in
    let e52 = a52_made _ _ _ _ _ c.requires.p2h_value.0 _ _ _ _ c.requires.p2h_value.2 c.requires.p2h_value.1 p3h c.a52-k52.ensures in
    let e54 = a54_made _ _ _ _ _ c.requires.p2h_value.0 _ _ e52 c.a54-k54.ensures in
    let g52 = a52_made _ _ _ _ _ g2h _ _ _ _ c.requires.g2_value.1 c.requires.g2_value.0 g3h c.a52.ensures in
    let g54 = a54_made _ _ _ _ _ g2h _ _ g52 c.a54-g54.ensures in
    let k1 = rw c.scaled-k.ensures at (more_of _ _ _ _ _ _ e52 c.more-k.ensures) in
    let k2 = more_both _ _ _ _ _ _ _ k1 e54 c.more-k-2.ensures in
    let k3 = more_both _ _ _ _ _ _ _ k2 (taken_is _ _ c.in_ok-a52_of.ensures) c.more-k-3.ensures in
    is_made _ _ (more_both _ _ _ _ _ _ _ k3 g54 c.more.ensures)
