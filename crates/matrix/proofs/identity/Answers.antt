-- `matrix::identity` meets its contract: the first i rows are the identity's. Assumes nothing.
use Rattle.std.proofs.Common.{arith}
use Rattle.loops.proofs.Stores.{rows_none}
use Rattle.matrix.proofs.Products.{identity_step, identity_end}
use Rattle.matrix.proofs.identity.Goals as goal

pub loop-i-init : goal.loop-i-init
loop-i-init c = rows_none _ _ _

pub loop-i-preserved : goal.loop-i-preserved
loop-i-preserved c = identity_step _ _ _ _ _ (omega arith) c.span.ensures.0 c.loop-i.invariant

pub returns : goal.returns
returns c = identity_end _ _ _ _ _ (omega arith) (omega arith) (c.fill.ensures.after (λ y e. e)) c.loop-i.invariant
