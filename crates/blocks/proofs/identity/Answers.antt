-- `blocks::identity` meets its contract. Assumes nothing.
use Rattle.std.proofs.Common.{arith}
use Rattle.loops.proofs.Stores.{rows_none}
use Rattle.matrix.proofs.Products.{identity_step}
use Rattle.blocks.proofs.Ones.{identity_ends}
use Rattle.blocks.proofs.identity.Goals as goal

pub loop-i-init : goal.loop-i-init
loop-i-init c = rows_none _ _ _

pub loop-i-preserved : goal.loop-i-preserved
loop-i-preserved c = identity_step _ _ _ _ _ (omega arith) (omega (arith, c.tail.ensures.0)) c.loop-i.invariant

pub returns : goal.returns
returns c = identity_ends _ _ _ _ _ _ _ (omega arith) c.lower.ensures c.requires (c.fill.ensures.after (λ y e. e)) c.loop-i.invariant
