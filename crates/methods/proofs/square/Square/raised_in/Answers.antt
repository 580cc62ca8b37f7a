-- `methods::square::Square::raised_in`: the room that is lent is all +0.0. Assumes nothing.
use Rattle.methods.proofs.Laws.{take-replicate}
use Rattle.methods.proofs.square.Square.raised_in.Goals as goal

pub raised_into-requires-clause-m_value : goal.raised_into-requires-clause-m_value
raised_into-requires-clause-m_value g c = rw c.get-n.ensures.value (take-replicate _ _ _ c.requires.room.0)
