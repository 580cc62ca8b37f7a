-- `session::put_nothing` meets its contract. Assumes nothing.
use Rattle.session.proofs.Writes.{at_nothing}
use Rattle.session.proofs.put_nothing.Goals as goal

pub returns : goal.returns
returns c = at_nothing _ c.told-figures _ _ c.no_head.ensures c.wipe.ensures
