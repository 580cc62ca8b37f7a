-- `blocks::add_along` meets its contract: the first d places are done. Assumes nothing.
use Rattle.std.proofs.Common.{◌≡◌, ◌-◌, suc}
use Rattle.loops.specs.Loop.{iter, stores, ◌!◌}
use Rattle.float.specs.Arith.{◌⊕◌, ◌⊗◌}
use Rattle.blocks.proofs.add_along.Given as goal

abbrev pub invariant-loop-d : goal.invariant-loop-d
invariant-loop-d l = l.out ≡ stores (λ q x. iter (suc q) (λ k z. z ⊕ l.row ! k ⊗ l.lower ! (q - k)) x) 0 l.d l.initial.out
