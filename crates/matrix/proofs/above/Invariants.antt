-- `matrix::above` meets its contract: no entry so far is outside the bound. Assumes nothing.
use Rattle.matrix.proofs.StopTest.{Under}
use Rattle.matrix.proofs.above.Given as goal

abbrev pub invariant-loop-x : goal.invariant-loop-x
invariant-loop-x l = Under l.bound l.m l.x-index
