-- `matrix::exp_into` meets its contract: with an even number of squarings the sum is built in out, else in odd, and its squarings end in out. Assumes nothing.
use Rattle.matrix.proofs.Series.{scaled_is, still_calm, worked}
use Rattle.matrix.proofs.Squarings.{even_squared, odd_squared}
use Rattle.matrix.proofs.exp_into.Goals as goal

pub taylor_squared-requires-clause-calm : goal.taylor_squared-requires-clause-calm
taylor_squared-requires-clause-calm c = still_calm _ c.requires.ready (scaled_is _ _ _ _ c.args.scale.inverse c.times_all.ensures)

pub taylor_squared-requires-else-scale-eq0-clause-calm : goal.taylor_squared-requires-else-scale-eq0-clause-calm
taylor_squared-requires-else-scale-eq0-clause-calm c = still_calm _ c.requires.ready (scaled_is _ _ _ _ c.args.scale.inverse c.times_all.ensures)

pub returns-then-scale-eq0 : goal.returns-then-scale-eq0
returns-then-scale-eq0 c =
    let r = c.taylor_squared.ensures in
    worked _ _ _ _ _ _ (scaled_is _ _ _ _ c.args.scale.inverse c.times_all.ensures) r.number (even_squared _ _ _ _ _ r.traded c.if-scale-eq0.true)

pub returns-else-scale-eq0 : goal.returns-else-scale-eq0
returns-else-scale-eq0 c =
    let r = c.taylor_squared-else-scale-eq0.ensures in
    worked _ _ _ _ _ _ (scaled_is _ _ _ _ c.args.scale.inverse c.times_all.ensures) r.number (odd_squared _ _ _ _ _ r.traded c.if-scale-eq0.false)
