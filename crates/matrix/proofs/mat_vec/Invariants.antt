-- `matrix::mat_vec` meets its contract: the first i entries are the rows' sums. Assumes nothing.
use Rattle.std.proofs.Common.{◌≡◌, length}
use Rattle.loops.specs.Loop.{◌!◌}
use Rattle.float.specs.Arith.{◌⊗◌, sum_of}
use Rattle.matrix.specs.Matrix.{at}
use Rattle.matrix.specs.Vector.{vec}
use Rattle.matrix.proofs.mat_vec.Given as goal

abbrev pub invariant-loop-i : goal.invariant-loop-i
invariant-loop-i l = (length l.out ≡ 16) × (l.out ≡ vec l.i (λ p. sum_of l.n (λ j. at l.m-2 l.n p j ⊗ l.v ! j)))
