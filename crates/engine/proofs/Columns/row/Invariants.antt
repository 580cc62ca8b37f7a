-- `engine::Columns::row`: the first j entries of the row are done. Assumes nothing.
use Rattle.std.proofs.Common.{◌≡◌, ◌+◌, ◌*◌}
use Rattle.loops.specs.Loop.{stores, ◌!◌}
use Rattle.float.specs.Arith.{◌⊖◌, ◌⊘◌}
use Rattle.engine.proofs.Columns.row.Given as goal

abbrev pub invariant-loop-j : goal.invariant-loop-j
invariant-loop-j l = l.out ≡ stores (λ q _. (l.self.answers.now ! (16 * q + l.i) ⊖ l.self.f0.now ! l.i) ⊘ l.d ! q) 0 l.j l.initial.out
