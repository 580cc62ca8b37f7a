-- `session::arrive` meets its contract. Assumes nothing.
use Rattle.session.proofs.Writes.{arrive_ok, arrive_bad}
use Rattle.session.proofs.arrive.Goals as goal

pub move_on-requires : goal.move_on-requires
move_on-requires c = c.requires

pub returns-then-finite : goal.returns-then-finite
returns-then-finite c = arrive_ok _ _ _ _ _ c.finite.ensures c.if-finite.true _ _ c.resting.ensures c.move_on.ensures

pub returns : goal.returns
returns c = arrive_bad _ _ _ _ _ c.finite.ensures c.if-finite.false c.refused.ensures
