-- `matrix::kernel::block` meets its contract: each sum has its first k products, and in the rows before r one more. Assumes nothing.
use Rattle.std.proofs.Common.{◌≡◌, ◌+◌}
use Rattle.loops.specs.Loop.{tab, fill}
use Rattle.matrix.specs.Products.{entry}
use Rattle.matrix.proofs.kernel.block.Given as goal

abbrev pub invariant-loop-k : goal.invariant-loop-k
invariant-loop-k g l = l.sums ≡ tab g.row.R (λ r. tab g.row.W (λ c. entry l.k l.left.entries.now l.left.width l.right.entries.now l.right.width r (l.from + c)))

abbrev pub invariant-loop-r : goal.invariant-loop-r
invariant-loop-r g l =
    l.sums ≡ fill l.r (λ r. tab g.row.W (λ c. entry (l.k + 1) l.left.entries.now l.left.width l.right.entries.now l.right.width r (l.from + c)))
    (tab g.row.R (λ r. tab g.row.W (λ c. entry l.k l.left.entries.now l.left.width l.right.entries.now l.right.width r (l.from + c))))
