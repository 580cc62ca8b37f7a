-- `matrix::is_last` meets its contract: the sum's largest magnitude is between 1 and 2, so between epsilon and twice that alone does it matter. Assumes nothing.
use Rattle.std.proofs.Common.{sym, ◌∙◌, arith}
use Rattle.matrix.proofs.StopTest.{none_above, one_under, above_at, above_none, tiny, far, exact}
use Rattle.matrix.proofs.is_last.Goals as goal

pub loop-x-init : goal.loop-x-init
loop-x-init c = none_above _ _

pub loop-x-preserved : goal.loop-x-preserved
loop-x-preserved c = one_under _ _ _ c.loop-x.invariant (sym c.outside.ensures ∙ c.if-outside.false)

pub returns-then-outside-2 : goal.returns-then-outside-2
returns-then-outside-2 c = sym (far _ _ c.requires (above_at _ _ _ (omega arith) (sym c.outside-then-outside.ensures ∙ c.if-outside-2.true)))

pub returns-then-outside : goal.returns-then-outside
returns-then-outside c = exact _ _ _ _ c.largest.ensures c.above.ensures

pub returns : goal.returns
returns c = sym (tiny _ _ (above_none _ _ _ c.loop-x.invariant (omega arith)))
