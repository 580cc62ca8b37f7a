-- `session::tolerances_ok` meets its contract. Assumes nothing.
use Rattle.std.proofs.Common.{arith}
use Rattle.loops.proofs.Stores.{all_first}
use Rattle.session.specs.Session.{tolerances_ok}
use Rattle.session.proofs.tolerances_ok.Goals as goal

pub returns : goal.returns
unfolding tolerances_ok
returns c = rw (c.positive.ensures, c.all_positive.ensures, c.get.ensures.value, all_first _ c.args.absolute.now c.args.n (omega (arith, c.get.ensures.value, c.get.ensures.most, c.told-absolute)))
