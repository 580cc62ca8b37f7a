-- `matrix::taylor` meets its contract: what is left of the series is the whole, and term 15 is never passed. Assumes nothing.
use Rattle.std.proofs.Common.{◌-◌}
use Rattle.matrix.proofs.Series.{Left}
use Rattle.matrix.proofs.taylor.Given as goal

abbrev pub invariant-loop-sum : goal.invariant-loop-sum
invariant-loop-sum l = Left l.a l.n l.odd l.sum l.k

abbrev pub decreases-loop-sum : goal.decreases-loop-sum
decreases-loop-sum l = 16 - l.k
