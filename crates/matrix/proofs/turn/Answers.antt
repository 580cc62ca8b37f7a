-- `matrix::turn` meets its contract. Assumes nothing.
use Rattle.matrix.proofs.Series.{product_low, turned}
use Rattle.matrix.proofs.turn.Goals as goal

pub add_term-requires-clause-low : goal.add_term-requires-clause-low
add_term-requires-clause-low c = product_low _ _ _ _ _ _ c.mat_mul.ensures c.requires.low

pub returns : goal.returns
returns c = turned _ _ _ _ _ _ _ _ _ c.mat_mul.ensures c.add_term.ensures
