-- `blocks::raise_rows` meets its contract. Assumes nothing.
use Rattle.matrix.proofs.Series.{scaled_is}
use Rattle.blocks.specs.Storage.{RaisedTo}
use Rattle.blocks.proofs.Top.{tame, raised}
use Rattle.blocks.proofs.raise_rows.Goals as goal

pub returns-in_default : goal.returns-in_default
unfolding RaisedTo
returns-in_default c = c.in_default.ensures

pub taylor-terms-requires-clause-tame : goal.taylor-terms-requires-clause-tame
taylor-terms-requires-clause-tame c =
    let s = c.in-Some.ensures in
    tame _ _ _ _ _ c.requires.len.0 s.0 s.1 (scaled_is _ _ _ _ c.in-Some.scale.inverse c.times_all.ensures) c.requires.augmented

pub returns : goal.returns
returns c =
    let s = c.in-Some.ensures in
    raised _ _ _ _ _ c.requires.len.0 s.0 s.1 (scaled_is _ _ _ _ c.in-Some.scale.inverse c.times_all.ensures) _ _ _ _ c.taylor-terms.ensures.summed c.squared.ensures c.told.ensures
