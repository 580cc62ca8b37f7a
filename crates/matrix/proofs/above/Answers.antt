-- `matrix::above` meets its contract: no entry so far is outside the bound. Assumes nothing.
use Rattle.std.proofs.Common.{sym, ◌∙◌, arith}
use Rattle.matrix.proofs.StopTest.{none_above, one_under, above_at, above_none}
use Rattle.matrix.proofs.above.Goals as goal

pub loop-x-init : goal.loop-x-init
loop-x-init c = none_above _ _

pub loop-x-preserved : goal.loop-x-preserved
loop-x-preserved c = one_under _ _ _ c.loop-x.invariant (sym c.outside.ensures ∙ c.if-outside.false)

pub returns-then-outside : goal.returns-then-outside
returns-then-outside c = sym (above_at _ _ _ (omega arith) (sym c.outside.ensures ∙ c.if-outside.true))

pub returns : goal.returns
returns c = sym (above_none _ _ _ c.loop-x.invariant (omega arith))
