-- `matrix::identity` meets its contract: the first i rows are the identity's. Assumes nothing.
use Rattle.std.proofs.Common.{◌≡◌, ◌*◌}
use Rattle.loops.specs.Loop.{stores}
use Rattle.matrix.proofs.Products.{diagonal}
use Rattle.matrix.proofs.identity.Given as goal

abbrev pub invariant-loop-i : goal.invariant-loop-i
invariant-loop-i l = l.out ≡ stores (diagonal l.n) 0 (l.i * l.n) l.initial.out
