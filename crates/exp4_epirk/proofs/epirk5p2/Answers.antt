-- `exp4_epirk::epirk5p2`: the second variant's numbers. Assumes nothing.
use Rattle.methods.specs.Numbers.{numbers}
use Rattle.methods.specs.Schemes.{epirk5p2}
use Rattle.exp4_epirk.proofs.epirk5p2.Goals as goal

pub returns : goal.returns
unfolding numbers epirk5p2
returns c = c.epirk5p.ensures
