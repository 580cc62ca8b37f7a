-- `matrix::times_all` meets its contract: the first places are multiplied. Assumes nothing.
use Rattle.std.proofs.Common.{◌≡◌}
use Rattle.loops.specs.Loop.{stores}
use Rattle.float.specs.Arith.{◌⊗◌}
use Rattle.matrix.proofs.times_all.Given as goal

abbrev pub invariant-loop-x : goal.invariant-loop-x
invariant-loop-x l = l.m ≡ stores (λ q x. x ⊗ l.factor) 0 l.x-index l.initial.m
