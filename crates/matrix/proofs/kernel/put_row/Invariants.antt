-- `matrix::kernel::put_row` meets its contract: the first j places are done. Assumes nothing.
use Rattle.std.proofs.Common.{◌≡◌}
use Rattle.loops.specs.Loop.{stores, ◌!◌}
use Rattle.matrix.proofs.kernel.put_row.Given as goal

abbrev pub invariant-loop-j : goal.invariant-loop-j
invariant-loop-j g l = l.out ≡ stores (λ q x. l.row ! q) 0 l.j l.initial.out
