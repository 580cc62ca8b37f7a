-- `methods::square::Square::augment_blocks` meets its contract. Assumes nothing.
use Rattle.std.proofs.Common.{arith, refl}
use Rattle.methods.proofs.BlocksOf.{begun_more, ended_one, ended_none, ended_whole, ended_shifts}
use Rattle.methods.proofs.square.Square.augment_blocks.Goals as goal

pub loop-i-preserved : goal.loop-i-preserved
loop-i-preserved c = begun_more _ _ _ _ _ _ _ _ c.requires.few.0 (omega arith) c.loop-i.invariant (rw c.get-n.ensures.value at c.augmented_row.ensures)

pub returns-then-p-gt1-clause-whole : goal.returns-then-p-gt1-clause-whole
returns-then-p-gt1-clause-whole c = ended_whole _ _ _ _ _ _ (ended_one _ _ _ _ _ _ _ _ c.loop-i.invariant (omega arith) c.if-p-gt1.true (rw (c.get-n.ensures.value) refl))

pub returns-then-p-gt1-clause-shifts : goal.returns-then-p-gt1-clause-shifts
returns-then-p-gt1-clause-shifts c = ended_shifts _ _ _ _ _ _ (ended_one _ _ _ _ _ _ _ _ c.loop-i.invariant (omega arith) c.if-p-gt1.true (rw (c.get-n.ensures.value) refl))

pub returns-else-p-gt1-clause-whole : goal.returns-else-p-gt1-clause-whole
returns-else-p-gt1-clause-whole c = ended_whole _ _ _ _ _ _ (ended_none _ _ _ _ _ _ _ c.loop-i.invariant (omega arith) c.if-p-gt1.false)

pub returns-else-p-gt1-clause-shifts : goal.returns-else-p-gt1-clause-shifts
returns-else-p-gt1-clause-shifts c = ended_shifts _ _ _ _ _ _ (ended_none _ _ _ _ _ _ _ c.loop-i.invariant (omega arith) c.if-p-gt1.false)
