-- `blocks::identity` meets its contract: the first i rows are done. Assumes nothing.
use Rattle.std.proofs.Common.{◌≡◌, ◌+◌, ◌*◌}
use Rattle.loops.specs.Loop.{stores}
use Rattle.matrix.proofs.Products.{diagonal}
use Rattle.blocks.proofs.identity.Given as goal

abbrev pub invariant-loop-i : goal.invariant-loop-i
invariant-loop-i l = l.out ≡ stores (diagonal (l.s.n + l.s.p)) 0 (l.i * (l.s.n + l.s.p)) l.initial.out
