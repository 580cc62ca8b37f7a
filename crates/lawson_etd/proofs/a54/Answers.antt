-- `lawson_etd::a54`: a call after the other. Assumes nothing.
use Rattle.methods.specs.Numbers.{numbers}
use Rattle.methods.specs.Phi.{combine_all, more_all}
use Rattle.lawson_etd.specs.Stages.{a54_of}
use Rattle.methods.proofs.Tallies.{more_onto}
use Rattle.lawson_etd.proofs.a54.Goals as goal

pub returns : goal.returns
unfolding numbers combine_all more_all a54_of
returns c = more_onto _ _ _ _ _ _ (rw c.nothing.ensures at c.more-k.ensures) c.more.ensures
