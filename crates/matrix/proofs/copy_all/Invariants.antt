-- `matrix::copy_all`: the places before the index hold a's. Assumes nothing.
use Rattle.std.proofs.Common.{◌≡◌}
use Rattle.loops.specs.Loop.{stores, ◌!◌}
use Rattle.matrix.proofs.copy_all.Given as goal

abbrev pub invariant-loop-p : goal.invariant-loop-p
invariant-loop-p l = l.x ≡ stores (λ q _. l.a ! q) 0 l.p l.initial.x
