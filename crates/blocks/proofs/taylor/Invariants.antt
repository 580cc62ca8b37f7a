-- `blocks::taylor` meets its contract: what is left of the series is the whole, and term 15 is never passed. Assumes nothing.
use Rattle.std.proofs.Common.{◌+◌, ◌-◌}
use Rattle.matrix.proofs.Series.{Left}
use Rattle.blocks.specs.Storage.{held}
use Rattle.blocks.proofs.taylor.Given as goal

abbrev pub invariant-loop-s : goal.invariant-loop-s
invariant-loop-s l = Left (held l.s.n l.s.p l.a) (l.s.n + l.s.p) (held l.s.n l.s.p l.odd) (held l.s.n l.s.p l.sum) l.k

abbrev pub decreases-loop-s : goal.decreases-loop-s
decreases-loop-s l = 16 - l.k
