-- `methods::Square::scale_into`: a turn for each place of the matrix. Assumes nothing.
use Rattle.std.proofs.Common.{◌≡◌, ◌/◌, ◌%◌, ◌≤◌, length}
use Rattle.loops.specs.Loop.{fill}
use Rattle.float.specs.Arith.{◌⊗◌}
use Rattle.matrix.specs.Matrix.{at}
use Rattle.methods.proofs.square.Square.scale_into.Given as goal

abbrev pub invariant-loop-p : goal.invariant-loop-p
invariant-loop-p l = (l.p-end ≡ length l.initial.out) × (l.p ≤ l.p-end) × (length l.out ≡ length l.initial.out)
    × (l.out ≡ fill l.p (λ p. l.scale_a ⊗ at l.fn.self.entries.now l.fn.self.n (p / l.fn.self.n) (p % l.fn.self.n)) l.initial.out)
