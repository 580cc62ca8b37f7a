-- `exp4_epirk::epirk5p1`: the first variant's numbers. Assumes nothing.
use Rattle.methods.specs.Numbers.{numbers}
use Rattle.methods.specs.Schemes.{epirk5p1}
use Rattle.exp4_epirk.proofs.epirk5p1.Goals as goal

pub returns : goal.returns
unfolding numbers epirk5p1
returns c = c.epirk5p.ensures
