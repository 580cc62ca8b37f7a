-- `methods::square::Square::augment_blocks` meets its contract: the first i rows are the augmented matrix's. Assumes nothing.
use Rattle.methods.proofs.BlocksOf.{Begun}
use Rattle.methods.proofs.square.Square.augment_blocks.Given as goal

abbrev pub invariant-loop-i : goal.invariant-loop-i
invariant-loop-i l = Begun l.self.n l.p l.self.entries.now l.scale_a l.input l.i l.out
