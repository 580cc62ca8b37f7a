-- `methods::Square::augment`: the rows of a, and the ones below. Assumes nothing.
use Rattle.std.proofs.Common.{arith}
use Rattle.methods.proofs.Augmented.{rows_none, rows_length, all_rows}
use Rattle.methods.proofs.square.Square.augment.Goals as goal

pub augmented_rows-requires-clause-out_value : goal.augmented_rows-requires-clause-out_value
augmented_rows-requires-clause-out_value c = rows_none _ _ _ c.requires.out_value

pub chain-requires : goal.chain-requires
chain-requires c = (omega (arith, c.requires), omega (arith, c.requires), rows_length _ _ _ _ c.augmented_rows.ensures)

pub returns : goal.returns
returns c = all_rows _ _ _ _ _ _ _ c.requires.n_lt_size.0 c.augmented_rows.ensures (rw (← c.get.ensures.value) c.chain.ensures)
