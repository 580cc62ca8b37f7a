-- `engine::Columns::jacobian_into`: the first i rows are done. Assumes nothing.
use Rattle.std.proofs.Common.{◌≡◌, ◌*◌}
use Rattle.loops.specs.Loop.{stores}
use Rattle.engine.proofs.Differences.{entry}
use Rattle.engine.proofs.Columns.jacobian_into.Given as goal

abbrev pub invariant-loop-i : goal.invariant-loop-i
invariant-loop-i l = l.out ≡ stores (entry l.self.state.now l.self.f0.now l.self.answers.now l.n) 0 (l.i * l.n) l.initial.out
