-- `blocks::column` meets its contract: the first i numbers are written. Assumes nothing.
use Rattle.std.proofs.Common.{◌≡◌, ◌+◌, ◌-◌, length}
use Rattle.matrix.specs.Matrix.{at}
use Rattle.matrix.specs.Vector.{vec}
use Rattle.blocks.specs.Storage.{held}
use Rattle.blocks.proofs.column.Given as goal

abbrev pub invariant-loop-i : goal.invariant-loop-i
invariant-loop-i l = (length l.out ≡ 16) × (l.out ≡ vec l.i (λ i. at (held l.s.n l.s.p l.x) (l.s.n + l.s.p) i (l.s.n + l.s.p - 1)))
