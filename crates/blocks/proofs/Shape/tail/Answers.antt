-- `blocks::Shape::tail` meets its contract. Assumes nothing.
use Rattle.std.proofs.Common.{arith, refl, ◌+◌}
use Rattle.loops.proofs.Places.{row_within}
use Rattle.blocks.proofs.Shape.tail.Goals as goal

pub returns : goal.returns
returns c = rw c.width.ensures (refl, omega (arith, row_within c.args.i c.args.self.n (c.args.self.n + c.args.self.p) c.requires))
