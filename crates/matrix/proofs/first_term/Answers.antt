-- `matrix::first_term` meets its contract: the identity times the matrix is the matrix, with +0.0 for -0.0. Assumes nothing.
use Rattle.matrix.proofs.Begun.{begun, begun_low}
use Rattle.matrix.proofs.first_term.Goals as goal

pub add_first-requires-clause-low : goal.add_first-requires-clause-low
add_first-requires-clause-low c = begun_low _ _ _ c.requires.calm c.requires.a_len.0 c.type_inv.a c.identity.ensures

pub returns : goal.returns
returns c = begun _ _ _ c.requires.calm c.requires.a_len.0 c.type_inv.a c.identity.ensures _ _ _ c.add_first.ensures
