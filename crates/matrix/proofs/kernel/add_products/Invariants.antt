-- `matrix::kernel::add_products` meets its contract: the first j places are done. Assumes nothing.
use Rattle.std.proofs.Common.{◌≡◌}
use Rattle.loops.specs.Loop.{stores, ◌!◌}
use Rattle.float.specs.Arith.{◌⊕◌, ◌⊗◌}
use Rattle.matrix.proofs.kernel.add_products.Given as goal

abbrev pub invariant-loop-j : goal.invariant-loop-j
invariant-loop-j g l = l.sums ≡ stores (λ q x. x ⊕ l.value ⊗ l.right ! q) 0 l.j l.initial.sums
