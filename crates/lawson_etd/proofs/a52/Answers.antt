-- `lawson_etd::a52`: a call after the other. Assumes nothing.
use Rattle.methods.specs.Numbers.{numbers}
use Rattle.methods.specs.Phi.{combine_all, more_all}
use Rattle.lawson_etd.specs.Stages.{a52_of}
use Rattle.methods.proofs.Tallies.{more_onto}
use Rattle.lawson_etd.proofs.a52.Goals as goal

pub returns : goal.returns
unfolding numbers combine_all more_all a52_of
returns c =
    let k1 = rw c.nothing.ensures at c.more-k.ensures in
    let k2 = more_onto _ _ _ _ _ _ k1 c.more-k-2.ensures in
    let k3 = more_onto _ _ _ _ _ _ k2 c.more-k-3.ensures in
    more_onto _ _ _ _ _ _ k3 c.more.ensures
