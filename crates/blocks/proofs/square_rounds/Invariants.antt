-- `blocks::square_rounds` meets its contract: after each round the two arrays have traded their parts once more. Assumes nothing.
use Rattle.matrix.specs.Calls.{Trades}
use Rattle.blocks.specs.Storage.{times}
use Rattle.blocks.proofs.square_rounds.Given as goal

abbrev pub invariant-loop-round : goal.invariant-loop-round
invariant-loop-round l = Trades (λ x. times l.s.n l.s.p x x) l.round l.initial.first l.first l.second
