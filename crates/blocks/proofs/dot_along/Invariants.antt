-- `blocks::dot_along` meets its contract: the first k products are added. Assumes nothing.
use Rattle.std.proofs.Common.{◌≡◌, ◌-◌}
use Rattle.loops.specs.Loop.{iter, ◌!◌}
use Rattle.float.specs.Arith.{◌⊕◌, ◌⊗◌}
use Rattle.blocks.proofs.dot_along.Given as goal

abbrev pub invariant-loop-k : goal.invariant-loop-k
invariant-loop-k l = l.sum ≡ iter l.k (λ k z. z ⊕ l.row ! k ⊗ l.lower ! (l.d - k)) l.fn.sum
