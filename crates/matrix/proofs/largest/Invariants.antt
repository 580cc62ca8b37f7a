-- `matrix::largest` meets its contract: the largest magnitude so far is kept. Assumes nothing.
use Rattle.std.proofs.Common.{◌≡◌}
use Rattle.loops.specs.Loop.{◌!◌}
use Rattle.float.specs.Arith.{one, abs, most}
use Rattle.matrix.proofs.largest.Given as goal

abbrev pub invariant-loop-x : goal.invariant-loop-x
invariant-loop-x l = l.big ≡ most l.x-index (λ p. abs (l.m ! p)) one
