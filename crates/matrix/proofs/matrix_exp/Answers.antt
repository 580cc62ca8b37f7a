-- `matrix::matrix_exp` meets its contract. That the series stops is a theorem, from the entries' own fit. Assumes nothing.
use Rattle.matrix.specs.Matrix.{admitted, norm}
use Rattle.matrix.specs.Calls.{rows_admitted, rows_norm}
use Rattle.matrix.proofs.Whole.{norm-admitted, ready, refused, done}
use Rattle.matrix.proofs.matrix_exp.Goals as goal

pub returns-in_default : goal.returns-in_default
unfolding admitted norm rows_admitted rows_norm
returns-in_default c = refused _ _ _ c.in_default.ensures

pub of-scale-requires : goal.of-scale-requires
unfolding admitted norm rows_admitted rows_norm
of-scale-requires c = norm-admitted _ _ _ 0 c.in-Some.ensures.0 c.in-Some.ensures.1

pub exp_roomy-terms-requires : goal.exp_roomy-terms-requires
unfolding admitted norm rows_admitted rows_norm
exp_roomy-terms-requires c = let s = c.in-Some.ensures in ready _ _ _ _ s.0 s.1 _ c.of-scale.ensures c.requires.n_bound c.requires.m_len c.slice_known-1.given

pub returns : goal.returns
unfolding admitted norm rows_admitted rows_norm
returns c =
    let s = c.in-Some.ensures in
    done _ _ _ _ s.0 s.1 _ _ _ _ c.of-scale.ensures (ready _ _ _ _ s.0 s.1 _ c.of-scale.ensures c.requires.n_bound c.requires.m_len c.slice_known-1.given) c.exp_roomy-terms.ensures
