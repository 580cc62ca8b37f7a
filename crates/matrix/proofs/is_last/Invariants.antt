-- `matrix::is_last` meets its contract: no entry so far is above epsilon. Assumes nothing.
use Rattle.float.specs.Arith.{epsilon}
use Rattle.matrix.proofs.StopTest.{Under}
use Rattle.matrix.proofs.is_last.Given as goal

abbrev pub invariant-loop-x : goal.invariant-loop-x
invariant-loop-x l = Under epsilon l.term l.x-index
