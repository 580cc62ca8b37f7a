-- `matrix::kernel::Rows::norm` meets its contract: the first i rows are admitted, and the largest of their sums is kept. Assumes nothing.
use Rattle.std.proofs.Common.{◌≡◌, true, ◌&&◌}
use Rattle.std.specs.Float.Ieee.{le}
use Rattle.loops.specs.Loop.{every}
use Rattle.float.specs.Arith.{zero+, limit, finite, most}
use Rattle.matrix.specs.Matrix.{row_sum}
use Rattle.matrix.proofs.kernel.Rows.norm.Given as goal

abbrev pub invariant-loop-i : goal.invariant-loop-i
invariant-loop-i l =
    let sums = row_sum l.self.entries.now l.self.width in
    (every l.i (λ p. finite (sums p) && le (sums p) limit) ≡ true) × (l.norm ≡ most l.i sums zero+)
