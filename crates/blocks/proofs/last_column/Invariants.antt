-- `blocks::last_column` meets its contract: the numbers are written in turn. Assumes nothing.
use Rattle.std.proofs.Common.{◌≡◌, ◌+◌, ◌-◌, length, replicate}
use Rattle.loops.specs.Loop.{fill}
use Rattle.float.specs.Arith.{zero+}
use Rattle.matrix.specs.Matrix.{at}
use Rattle.blocks.specs.Storage.{held}
use Rattle.blocks.proofs.last_column.Given as goal

abbrev pub invariant-loop-i : goal.invariant-loop-i
invariant-loop-i l = (length l.column ≡ 20) × (l.column ≡ fill l.i (λ i. at (held l.s.n l.s.p l.x) (l.s.n + l.s.p) i (l.s.n + l.s.p - 1)) (replicate 20 zero+))

abbrev pub invariant-loop-d : goal.invariant-loop-d
invariant-loop-d l = (length l.column ≡ 20) × (l.column ≡ fill (l.s.n + l.d) (λ i. at (held l.s.n l.s.p l.x) (l.s.n + l.s.p) i (l.s.n + l.s.p - 1)) (replicate 20 zero+))
