-- `matrix::kernel::put` meets its contract: the first r rows of the block are written. Assumes nothing.
use Rattle.std.proofs.Common.{◌≡◌}
use Rattle.matrix.specs.Products.{entry, framed}
use Rattle.matrix.proofs.kernel.put.Given as goal

abbrev pub invariant-loop-r : goal.invariant-loop-r
invariant-loop-r g l =
    l.out ≡ framed g.row.R l.width 0 l.r l.from g.row.W (entry l.right.rows l.left.entries.now l.left.width l.right.entries.now l.right.width) l.initial.out
