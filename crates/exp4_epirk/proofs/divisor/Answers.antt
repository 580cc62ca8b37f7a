-- `exp4_epirk::divisor`: either variant. Assumes nothing.
use Rattle.methods.specs.Numbers.{numbers}
use Rattle.exp4_epirk.proofs.divisor.Goals as goal

pub returns-in-P1 : goal.returns-in-P1
unfolding numbers
returns-in-P1 c = rw c.in-P1.is
