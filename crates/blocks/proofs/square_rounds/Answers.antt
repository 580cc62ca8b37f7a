-- `blocks::square_rounds` meets its contract: after each round the two arrays have traded their parts once more. Assumes nothing.
use Rattle.std.proofs.Common.{◌≡◌, arith}
use Rattle.matrix.proofs.Squarings.{trades_none, even_round, odd_round}
use Rattle.blocks.proofs.square_rounds.Goals.{then-round-eq0, else-round-eq0}
use Rattle.blocks.proofs.square_rounds.Goals as goal

pub loop-round-init : goal.loop-round-init
loop-round-init c = trades_none _ _ _

pub loop-round-preserved : goal.loop-round-preserved
loop-round-preserved c =
    elim c.if-round-eq0.branch [
      | then-round-eq0 w ↦ rw (w.first-is, w.second-is) (even_round _ _ _ _ _ c.loop-round.invariant _ w.if-round-eq0.true w.square.ensures)
      | else-round-eq0 w ↦ rw (w.first-is, w.second-is) (odd_round _ _ _ _ _ c.loop-round.invariant _ w.if-round-eq0.false w.square-else-round-eq0.ensures)
    ]

pub returns-clause-traded : goal.returns-clause-traded
returns-clause-traded c = let e : c.loop-round.round ≡ c.args.count = omega arith in rw e at c.loop-round.invariant
