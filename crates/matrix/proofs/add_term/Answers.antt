-- `matrix::add_term` meets its contract. Assumes nothing.
use Rattle.matrix.proofs.Series.{divided, divided_low}
use Rattle.matrix.proofs.add_term.Goals as goal

pub is_last-requires : goal.is_last-requires
is_last-requires c = divided_low _ _ _ _ _ c.divide_add.ensures c.requires.low

pub returns : goal.returns
returns c = divided _ _ _ _ _ _ c.divide_add.ensures c.is_last.ensures
