-- `matrix::kernel::rows_product` meets its contract: the first rows are written. Assumes nothing.
use Rattle.std.proofs.Common.{◌≡◌, ◌-◌, ◌≤◌}
use Rattle.matrix.specs.Products.{entry, framed}
use Rattle.matrix.proofs.kernel.rows_product.Given as goal

abbrev pub invariant-loop-i : goal.invariant-loop-i
invariant-loop-i l =
    (l.i ≤ l.left.rows)
    × (l.out ≡ framed l.left.rows l.width 0 l.i 0 l.columns (entry l.right.rows l.left.entries.now l.left.width l.right.entries.now l.right.width) l.initial.out)

abbrev pub decreases-loop-i : goal.decreases-loop-i
decreases-loop-i l = l.left.rows - l.i
