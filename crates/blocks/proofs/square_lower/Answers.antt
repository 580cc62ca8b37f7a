-- `blocks::square_lower` meets its contract. Assumes nothing.
use Rattle.blocks.proofs.Rowwise.{from_zeros}
use Rattle.blocks.proofs.square_lower.Goals as goal

pub returns : goal.returns
returns c = from_zeros _ _ _ _ _ (c.fill.ensures.after (λ y e. e)) c.add_along.ensures
