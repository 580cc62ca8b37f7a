-- `table::Table::derivative`: record by record, the sums. Assumes nothing.
use Rattle.std.proofs.Common.{◌≤◌, ◌≡◌}
use Rattle.matrix.specs.Vector.{vec}
use Rattle.table.specs.Table.{records, summed}
use Rattle.table.proofs.Table.derivative.Given as goal

abbrev pub invariant-loop-r : goal.invariant-loop-r
invariant-loop-r l =
    (l.r ≤ l.r-end) × (l.r-end ≡ records l.self.bytes.now) × (l.sums ≡ vec l.self.n (λ i. summed l.self.bytes.now l.time l.u i l.r))
