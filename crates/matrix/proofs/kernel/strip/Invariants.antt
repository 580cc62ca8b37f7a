-- `matrix::kernel::strip` meets its contract: the first columns are written. Assumes nothing.
use Rattle.std.proofs.Common.{◌≡◌, ◌-◌, ◌≤◌}
use Rattle.matrix.specs.Products.{entry, framed}
use Rattle.matrix.proofs.kernel.strip.Given as goal

abbrev pub invariant-loop-from : goal.invariant-loop-from
invariant-loop-from g l =
    (l.from ≤ l.columns)
    × (l.out ≡ framed g.row.R l.width 0 g.row.R 0 l.from (entry l.right.rows l.left.entries.now l.left.width l.right.entries.now l.right.width) l.initial.out)

abbrev pub decreases-loop-from : goal.decreases-loop-from
decreases-loop-from g l = l.columns - l.from
