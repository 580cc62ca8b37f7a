-- `session::figures::put`: the places before the index hold x's. Assumes nothing.
use Rattle.std.proofs.Common.{◌≡◌}
use Rattle.loops.specs.Loop.{stores, ◌!◌}
use Rattle.session.proofs.figures.put.Given as goal

abbrev pub invariant-loop-i : goal.invariant-loop-i
invariant-loop-i l = l.out ≡ stores (λ i _. l.x ! i) l.at l.i l.initial.out
