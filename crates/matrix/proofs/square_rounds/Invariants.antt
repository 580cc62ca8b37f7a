-- `matrix::square_rounds` meets its contract: after each round the two arrays have traded their parts once more. Assumes nothing.
use Rattle.std.proofs.Common.{◌≡◌}
use Rattle.matrix.specs.Matrix.{mat_mul}
use Rattle.matrix.specs.Calls.{Trades}
use Rattle.matrix.proofs.square_rounds.Given as goal

abbrev pub invariant-loop-round : goal.invariant-loop-round
invariant-loop-round l = Trades (λ x. mat_mul x x l.n) l.round l.initial.first l.first l.second × (l.round ≡ 0 → l.second ≡ l.initial.second)
