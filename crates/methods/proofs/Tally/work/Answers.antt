-- `methods::Tally::work` meets its contract. Assumes nothing.
use Rattle.std.proofs.Common.{refl, arith}
use Rattle.methods.proofs.Tallies.{work_is}
use Rattle.methods.proofs.Tally.work.Goals as goal

pub returns : goal.returns
returns c = work_is c.args.self _ (omega (arith, c.well_formed)) refl
