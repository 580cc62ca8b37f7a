-- `lawson_etd::a52_of`: its four phi terms, and what is made of them. Assumes nothing.
use Rattle.std.proofs.Common.{◌∙◌}
use Rattle.methods.specs.Numbers.{numbers}
use Rattle.lawson_etd.proofs.HochOst.{a52_made, a52_p2h, a52_p3, a52_p2, a52_p3h, fails_narrowed}
use Rattle.methods.proofs.Made.{taken_is, untaken, is_made, none_made}
use Rattle.lawson_etd.proofs.a52_of.Goals as goal

pub returns-in_err-p2h : goal.returns-in_err-p2h
unfolding numbers
returns-in_err-p2h c = c.from_residual.ensures ∙ none_made _ (fails_narrowed _ (a52_p2h _ _ _ _ (untaken _ c.in_err-p2h.ensures)))

pub returns-in_err-p3 : goal.returns-in_err-p3
unfolding numbers
returns-in_err-p3 c = c.from_residual-in_err-p3.ensures ∙ none_made _ (fails_narrowed _ (a52_p3 _ _ _ _ (untaken _ c.in_err-p3.ensures)))

pub returns-in_err-p2 : goal.returns-in_err-p2
unfolding numbers
returns-in_err-p2 c = c.from_residual-in_err-p2.ensures ∙ none_made _ (fails_narrowed _ (a52_p2 _ _ _ _ (untaken _ c.in_err-p2.ensures)))

pub returns-in_err-p3h : goal.returns-in_err-p3h
unfolding numbers
returns-in_err-p3h c = c.from_residual-in_err-p3h.ensures ∙ none_made _ (fails_narrowed _ (a52_p3h _ _ _ _ (untaken _ c.in_err-p3h.ensures)))

pub returns : goal.returns
unfolding numbers
returns c =
    is_made _ _ (a52_made _ _ _ _ _ (taken_is _ _ c.in_ok-p2h.ensures) _ _ _ _
    (taken_is _ _ c.in_ok-p3.ensures) (taken_is _ _ c.in_ok-p2.ensures) (taken_is _ _ c.in_ok-p3h.ensures) c.a52.ensures)
