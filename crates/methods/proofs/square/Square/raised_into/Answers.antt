-- `methods::square::Square::raised_into` meets its contract. Assumes nothing.
use Rattle.methods.proofs.square.Square.raised_into.Goals as goal

pub raise-requires-clause-augmented : goal.raise-requires-clause-augmented
raise-requires-clause-augmented c = rw c.get.ensures.value c.augment_blocks.ensures.shifts

pub returns : goal.returns
returns c = rw (c.get.ensures.value, c.augment_blocks.ensures.whole) at c.raise.ensures
