use Rattle.std.proofs.Common.{◌≡◌, ◌+◌, length}
use Rattle.loops.specs.Loop.{◌!◌}
use Rattle.float.specs.Arith.{◌⊗◌, sum_of}
use Rattle.matrix.proofs.row_dot.Given as goal

abbrev pub invariant-loop-x : goal.invariant-loop-x
invariant-loop-x l = l.sum ≡ sum_of (length l.yielded + 1) (λ k. l.row ! k ⊗ l.v ! k)
