-- `matrix::taylor_squared` meets its contract. Assumes nothing.
use Rattle.matrix.proofs.taylor_squared.Goals as goal

pub returns-clause-number : goal.returns-clause-number
returns-clause-number c = c.taylor-terms.ensures.number

pub returns-clause-traded : goal.returns-clause-traded
returns-clause-traded c = rw c.taylor-terms.ensures.whole at c.square_rounds.ensures.traded
