-- `blocks::square` meets its contract: the first i rows are done. Assumes nothing.
use Rattle.blocks.specs.Storage.{split}
use Rattle.blocks.proofs.Rowwise.{Rowwise}
use Rattle.blocks.proofs.square.Given as goal

abbrev pub invariant-loop-i : goal.invariant-loop-i
invariant-loop-i l = Rowwise l.s.n l.s.p (split l.s.n l.s.p l.x) (split l.s.n l.s.p l.x) l.i l.out
